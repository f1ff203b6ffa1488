pub mod Items
pub mod Whole
pub use Rattle.cpt_cert_form.specs.Forms
pub use Rattle.cpt_cert_form.specs.Text
