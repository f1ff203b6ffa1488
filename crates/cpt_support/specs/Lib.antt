pub mod NoStep
