use Rattle.std.specs.Prelude.{◌≡◌, ◌+◌, ◌≤◌, length}
use Rattle.std.specs.VecDeque.{deque_len, deque_capacity}
use Rattle.cpt_sheet.specs.declared.data.Cand.{Cand}
use Rattle.cpt_sheet.specs.View.{has}
use Rattle.cpt_agenda.specs.declared.agenda.Agenda.TheInside.{Inside}
use Rattle.cpt_agenda.specs.Agendas.{AgendaShape}
use Rattle.cpt_agenda.specs.Marks.{mark_of, free_in, IsDistinct}

-- what is seen of an agenda
abbrev pub shape_of : Inside → AgendaShape
shape_of a = record { waiting = a.queue.items; tokens = length a.tokens.items; acts = length a.acts.items; room = deque_capacity a.queue }

-- the marked subjects wait, once each, and there is room for all others
pub record IsSound (a : Inside) : Type 0 where
  pub marks : (c : Cand) → mark_of a.tokens.items a.acts.items c ≡ has c a.queue.items
  pub distinct : IsDistinct a.queue.items
  pub room : deque_len a.queue + (free_in a.tokens.items + free_in a.acts.items) ≤ deque_capacity a.queue
