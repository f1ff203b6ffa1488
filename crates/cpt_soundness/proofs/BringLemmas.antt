-- what is read once a token is brought
pub use Rattle.cpt_calculus.proofs.Brings.{beside_new, beside_old, bring_count, bring_token, bring_kind, bring_span, bring_need, bring_cands, bring_orders, bring_atoms, bring_posted}
