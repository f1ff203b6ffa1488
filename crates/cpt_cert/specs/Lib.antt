pub use Rattle.cpt_cert_form.specs.Forms
pub use Rattle.cpt_cert_form.specs.Text
pub use Rattle.cpt_cert_read.specs.Lines
pub use Rattle.cpt_cert_read.specs.Reading
pub use Rattle.cpt_cert_read.specs.Texts
pub use Rattle.cpt_cert_print.specs.Whole
