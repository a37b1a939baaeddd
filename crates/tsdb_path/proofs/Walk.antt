-- The steps of the reading from the left.
use Rattle.std.proofs.Common.{◌≡◌, ◌≢◌, ◌≤◌, ◌+◌, ◌-◌, ℕ, List, [], ◌∷◌, ◌++◌, Option, Some, None, length, refl, sym, ap, subst, ◌∙◌, arith, length-append, append_assoc}
use Rattle.std.specs.Prelude.{All, codes}
use Rattle.std.proofs.lemmas.List.Elements.{All-nil, All-push}
use Rattle.std.proofs.lemmas.List.Sums.{sum_by_push}
use Rattle.tsdb_path.specs.Nodes.{parts, IsNode, IsRooted, IsPath}
use Rattle.tsdb_path.specs.Refusals.{HasFittingLength, StandsAfterNodes, HasBadNodeAt, HasNodeTooManyAt, IsNotRooted}
use Rattle.tsdb_path.specs.Steps.{IsFirstSplit, TakesNode, BeginsWithPart, BeginsBadly, IsBehindNodes}
use Rattle.tsdb_path.proofs.Parts.{path_from_parts}

-- one node further
pub further : (bytes rest next : List ℕ) (count : ℕ) → IsBehindNodes bytes rest count → TakesNode rest (Some next) → IsBehindNodes bytes next (count + 1)
further bytes rest next count behind takes =
    let f = behind.prefix in
    let n = takes.first in
    record {
      prefix = f ++ n ∷ [];
      parted = behind.parted ∙ ap (λ l. f ++ l) takes.split.parted ∙ sym (append_assoc f (n ∷ []) (parts next));
      good = All-push IsNode f n behind.good takes.node;
      size = length-append f (n ∷ []) ∙ ap (λ k. k + 1) behind.size;
      lengths = omega (arith, sum_by_push (λ part. length part + 1) f n, behind.lengths, takes.split.lengths);
    }

-- the last node
pub path_at_end : (bytes rest : List ℕ) (count : ℕ) → HasFittingLength bytes → IsRooted (parts bytes) → IsBehindNodes bytes rest count → count ≤ 15 → TakesNode rest None → IsPath bytes
path_at_end bytes rest count fits rooted behind few takes =
    let f = behind.prefix in
    let n = takes.first in
    let e : parts bytes ≡ f ++ n ∷ [] = behind.parted ∙ ap (λ l. f ++ l) takes.split.parted in
    path_from_parts bytes (record {
      rooted = rooted;
      good = subst (All IsNode) (sym e) (All-push IsNode f n behind.good takes.node);
      few = omega (arith, ap length e, length-append f (n ∷ []), behind.size);
      short = fits.short;
    })

stands : (bytes rest first : List ℕ) (count : ℕ) → HasFittingLength bytes → IsRooted (parts bytes) → (behind : IsBehindNodes bytes rest count) → BeginsWithPart rest first → StandsAfterNodes behind.prefix first bytes (length bytes - length rest)
stands bytes rest first count fits rooted behind begins =
    record {
      fits = fits;
      rooted = rooted;
      back = begins.others;
      parted = behind.parted ∙ ap (λ l. behind.prefix ++ l) begins.parted;
      good = behind.good;
      place = omega (arith, behind.lengths);
    }

begins_from_split : (rest first : List ℕ) (more : Option (List ℕ)) → IsFirstSplit rest first more → BeginsWithPart rest first
begins_from_split rest first None split = record { others = []; parted = split.parted }
begins_from_split rest first (Some next) split = record { others = parts next; parted = split.parted }
