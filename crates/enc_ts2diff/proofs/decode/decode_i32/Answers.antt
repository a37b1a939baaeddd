use Rattle.std.proofs.Common.{◌≡◌, ℕ, ◌<◌, ◌≤◌, ◌^◌, Err, sym, get_or, pos, negsuc, List, ℤ, [], ◌∷◌, ◌++◌, to_z, of_z, length, take, All, FitsSigned, rules, arith, ap, subst, ◌∙◌}
use Rattle.std.specs.Int.{w32, w64}
use Rattle.std.proofs.lemmas.Result.{err_from_is_err_and}
use Rattle.tsdb_base.specs.declared.fault.DecodeFault.TheVariants.{Bad}
use Rattle.std.proofs.lemmas.Grind.{common_steps}
use Rattle.std.proofs.lemmas.Int.{to_z-of_z}
use Rattle.std.proofs.lemmas.List.{take_all}
use Rattle.std.proofs.lemmas.List.Elements.{All-push}
use Rattle.tsdb_bits.specs.Lists.{IsListOf, IsSpelling}
use Rattle.enc_ts2diff.specs.Spelling.{spelling}
use Rattle.enc_ts2diff.proofs.Numbers.{wider_list}
use Rattle.enc_ts2diff.proofs.decode.decode_i32.Goals as goal

pub loop-value-preserved : goal.loop-value-preserved
loop-value-preserved c =
    let l = c.loop-value in
    let f : FitsSigned w32 c.in-Ok.value = search rules in
    let same : to_z w32 (of_z w32 c.in-Ok.value) ≡ c.in-Ok.value = to_z-of_z w32 c.in-Ok.value f in
    let items : c.push.new.self.items ≡ l.values.items ++ c.in-Ok.value ∷ [] = c.in_ok-push.ensures.items ∙ ap (λ (t : ℤ). l.values.items ++ t ∷ []) same in
    record {
      copied = grind (arith, common_steps);
      fits = rw items (All-push (FitsSigned w32) l.values.items c.in-Ok.value l.invariant.fits f);
    }

wider_spelling : (bytes : List ℕ) (values : List ℤ) → IsSpelling spelling (FitsSigned w32) bytes values → IsSpelling spelling (FitsSigned w64) bytes values
wider_spelling bytes values is = record {
  list = wider_list values is.list;
  bytes_are = is.bytes_are;
}

-- all of the list was copied
record IsCopy (values wide : List ℤ) : Type 0 where
  same : values ≡ wide
  list : IsListOf (FitsSigned w32) values

all_copied : (values items wide : List ℤ) (i : ℕ) → length items ≤ i → items ≡ wide → length wide ≤ 1000 → values ≡ take i items → All (FitsSigned w32) values → IsCopy values wide
all_copied values items wide i done w few copied fits =
    let e : values ≡ wide = copied ∙ take_all i items done ∙ w in
    record { same = e; list = record { few = rw e few; typed = fits } }

pub returns-clause-found : goal.returns-clause-found
returns-clause-found c =
    let l = c.loop-value in
    let wide = c.in_ok-wide.wide.items in
    let k = all_copied l.values.items c.deref-value-items.result.now wide l.value-index (omega arith) c.deref-value-items.ensures.value c.in_ok-wide.ensures.found.list.few l.invariant.copied l.invariant.fits in
    record { list = k.list; bytes_are = c.in_ok-wide.ensures.found.bytes_are ∙ ap spelling (sym k.same) }

pub returns-clause-only : goal.returns-clause-only
returns-clause-only c =
    let l = c.loop-value in
    let k = all_copied l.values.items c.deref-value-items.result.now c.in_ok-wide.wide.items l.value-index (omega arith) c.deref-value-items.ensures.value c.in_ok-wide.ensures.found.list.few l.invariant.copied l.invariant.fits in
    λ values is. c.in_ok-wide.ensures.only values (wider_spelling c.args.bytes.now values is) ∙ sym k.same

pub returns-in_err-wide-clause-bad : goal.returns-in_err-wide-clause-bad
returns-in_err-wide-clause-bad c = λ is_bad values is.
    let p = err_from_is_err_and c.from_residual.result c.from_residual.ensures.1 in
    let passed_on = rw (p.1, p.2) at is_bad in
    let bad_there : c.in_err-wide.field-0.0 ≡ Bad = cc in
    c.in_err-wide.ensures.bad (ap (λ x. Err x) bad_there) values (wider_spelling c.args.bytes.now values is)

pub returns-in_default-clause-bad : goal.returns-in_default-clause-bad
returns-in_default-clause-bad c = λ is_bad values is.
    let items = c.deref-value-items.result.now in
    let i = c.loop-value.value-index in
    let same : values ≡ items = c.in_ok-wide.ensures.only values (wider_spelling c.args.bytes.now values is) ∙ sym c.deref-value-items.ensures.value in
    let all : All (FitsSigned w32) items = subst (λ (l : List ℤ). All (FitsSigned w32) l) same is.list.typed in
    let f : FitsSigned w32 (get_or items i (pos 0)) = all i (pos 0) (omega arith) in
    search rules
