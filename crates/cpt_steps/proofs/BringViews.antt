-- what is read once a token is brought
pub use Rattle.cpt_calculus.proofs.Below.{posted_cases}
pub use Rattle.cpt_calculus.proofs.Views.{need_from_atoms}
pub use Rattle.cpt_calculus.proofs.Brings.{beside_new, beside_old, offered_atoms, map_at, map_count, token_old, token_last, bring_count, bring_old, bring_token, bring_kind, bring_span, bring_need, bring_cands, bring_orders, bring_atoms, bring_posted}
