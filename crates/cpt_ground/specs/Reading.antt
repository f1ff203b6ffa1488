use Rattle.std.specs.Prelude.{◌≡◌, List}
use Rattle.std.specs.List.{AllZip}
use Rattle.cpt_domain.specs.declared.domain.Domain.{Domain}
use Rattle.cpt_facts.specs.declared.problem.Problem.{Problem}
use Rattle.cpt_instance.specs.declared.instances.Instance.{Instance}
use Rattle.cpt_instance.specs.Instances.{AreInstances, HasDuration, schema_at, ground_atoms, instance_name}
use Rattle.cpt_ground.specs.Signed.{Signed, SignedAction}

-- what an instance does
pub record IsActionOf (d : Domain) (p : Problem) (i : Instance) (a : SignedAction) : Type 0 where
  pub name : a.name ≡ instance_name d p i
  pub dur : HasDuration p i.args (schema_at d i.schema).dur a.dur
  pub present : a.present ≡ ground_atoms i.args (schema_at d i.schema).pre
  pub absent : a.absent ≡ ground_atoms i.args (schema_at d i.schema).absent
  pub add : a.add ≡ ground_atoms i.args (schema_at d i.schema).add
  pub dele : a.dele ≡ ground_atoms i.args (schema_at d i.schema).dele

-- the reading of a domain and a problem with absence: its actions are the instances in order
pub record IsReading (d : Domain) (p : Problem) (s : Signed) : Type 0 where
  pub instances : List Instance
  pub exact : AreInstances d p instances
  pub actions : AllZip (IsActionOf d p) instances s.actions
  pub init : s.init ≡ p.init
  pub goal : s.goal ≡ p.goal
  pub absent : s.absent ≡ p.absent
