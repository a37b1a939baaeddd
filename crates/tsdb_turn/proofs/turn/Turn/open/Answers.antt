use Rattle.std.proofs.Common.{◌≡◌, [], ◌∷◌, ◌++◌, Some, ap, ◌∙◌, arith}
use Rattle.tsdb_turn.specs.Values.{Follows, IsTurnKept}
use Rattle.tsdb_turn.proofs.Seats.{opens}
use Rattle.tsdb_turn.proofs.Values.{follows_itself, kept_empty}
use Rattle.tsdb_turn.proofs.turn.Turn.open.Goals as goal

pub new-requires : goal.new-requires
new-requires g c =
    let value = c.args.value in
    let seats = c.args.seats in
    let items : c.push_reserved.new.self.items ≡ Some value ∷ [] = c.push_reserved.ensures.items ∙ ap (λ xs. xs ++ Some value ∷ []) c.in-Ok-with_capacity.ensures.items in
    rw (c.of.ensures, items, c.as_slice.ensures.value)
    (opens (Follows g.V.Logged) (IsTurnKept g.V.Logged seats value) seats value 18446744073709551115 c.in-Ok.words.items c.in-Ok.ensures (omega arith) c.requires.seats (omega arith)
    (λ n. follows_itself g.V.Logged n value value c.requires.start)
    (kept_empty g.V.Logged seats value c.requires.empty))
