use Rattle.std.proofs.Common.{◌≡◌, ◌∙◌, ℕ, ◌-◌, List, ap, arith, drop, length, length-drop, sym, take}
use Rattle.std.proofs.lemmas.List.{drop_all, take_all}
use Rattle.tsdb_frames.specs.Readers.{left_of}
use Rattle.tsdb_frames.proofs.reader.FrameReader.part.Goals as goal

-- a slice to the end is what is left
to_the_end : (n : ℕ) (xs ys : List ℕ) → xs ≡ ys → take (length xs - n) (drop n xs) ≡ drop n ys
to_the_end n xs ys same = take_all (length xs - n) (drop n xs) (omega (arith, length-drop n xs)) ∙ ap (λ (l : List ℕ). drop n l) same

pub returns-then-left-lt-LENGTH_END : goal.returns-then-left-lt-LENGTH_END
returns-then-left-lt-LENGTH_END g c =
    let reader = c.args.self.now in
    let left = to_the_end reader.read c.deref.result.now reader.piece.items c.deref.ensures.value in
    sym (drop_all 5 (left_of reader) (omega (arith, ap length left, c.if-left-lt-LENGTH_END.true)))

pub returns : goal.returns
returns g c =
    let reader = c.args.self.now in
    to_the_end 5 _ (left_of reader) (to_the_end reader.read c.deref.result.now reader.piece.items c.deref.ensures.value)
