use Rattle.std.proofs.Common.{rules, arith, Some, ◌∷◌, ap, sym, subst, ◌∙◌}
use Rattle.atomic_table.specs.Table.{rest}
use Rattle.tsdb_turn.specs.Values.{Follows, IsTurnKept}
use Rattle.tsdb_turn.proofs.Steps.{departs, departed}
use Rattle.tsdb_turn.proofs.Values.{follows_itself, follows_others, kept_after}
use Rattle.tsdb_turn.proofs.turn.Turn.put_back.Goals as goal

pub fetch_add-served-requires : goal.fetch_add-served-requires
fetch_add-served-requires g c =
    let shared = c.self.inside.table.shared in
    let seats = shared.key.seats in
    let seat = c.exchange-empty.new.seat in
    let h = c.requires.inside in
    let t = h.0 in
    let k = h.1 in
    let entered = h.2 in
    let ext = h.4 in
    let value = c.args.value in (
      search rules,
      omega arith,
      departs (Follows g.V.Logged) (IsTurnKept g.V.Logged seats shared.key.start.value) seats shared.key.start.value shared.table_id.slots seat.id seat.me t k entered value
          (c.exchange-empty.ensures.3 ∙ ap (λ m. (m.0, (0, Some value) ∷ rest m.1)) h.3)
          (follows_itself g.V.Logged k.number k.start value ext.origin)
          (λ m l apart fit. follows_others g.V.Logged k.number m k.start entered l value apart ext fit)
          (λ made opened all.
          subst (λ first. IsTurnKept g.V.Logged seats first value) opened
          (kept_after g.V.Logged k.number seats k.start entered value made ext (subst (λ first. IsTurnKept g.V.Logged seats first entered) (sym opened) all))),
    )

pub returns-clause-left : goal.returns-clause-left
returns-clause-left g c k is =
    let h = c.requires.inside in
    c.wake_next.ensures.seat
    ∙ departed c.exchange-empty.new.seat.me c.fetch_add-served.new.seat.me h.0 h.1 k h.2 c.args.value
    (c.exchange-empty.ensures.3 ∙ ap (λ m. (m.0, (0, Some c.args.value) ∷ rest m.1)) h.3)
    (sym (ap (λ m. m.0.known) h.3) ∙ is)
    c.fetch_add-served.ensures.2
