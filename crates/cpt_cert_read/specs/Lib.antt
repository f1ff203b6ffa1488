pub mod Lines
pub mod Reading
pub mod Texts
pub use Rattle.cpt_cert_form.specs.Forms
pub use Rattle.cpt_cert_form.specs.Text
