-- Bytes behind their length, of which only some are a field.
use Rattle.std.proofs.Common.{◌≡◌, ℕ, List, Err, refl, sym, subst, ◌∙◌}
use Rattle.std.specs.Prelude.{◌≢◌}
use Rattle.tsdb_base.specs.Plain.{plain_text, IsText}
use Rattle.tsdb_base.specs.PlainLaws.{plain_text-prefix_free}
use Rattle.tsdb_fields.specs.declared.fault.FieldFault.{FieldFault}
use Rattle.tsdb_fields.specs.declared.fault.FieldFault.TheVariants as field
use Rattle.tsdb_fields.specs.declared.rest.Rest.{Rest}
use Rattle.tsdb_fields.specs.Reading.{TakesBytes, Lacks, Reads}
use Rattle.tsdb_path.specs.declared.fault.PathFault.{PathFault}
use Rattle.tsdb_path.specs.declared.fault.PathFault.TheVariants as path

-- where the bytes behind their length are no field, no field stands there
lacks : (IsField : List ℕ → Type 0) (old new : Rest) (bytes : List ℕ) → TakesBytes old (plain_text bytes) new → IsText bytes
    → ((f : List ℕ) → IsField f → IsText f) → (IsField bytes → ⊥) → Lacks plain_text IsField old old.at
lacks IsField old new bytes takes text short bad = record {
  place = refl;
  none = λ f behind is e.
      let same = plain_text-prefix_free bytes f new.bytes.now behind text (short f is) (sym takes.bytes ∙ e) in
      bad (subst IsField (sym same.0) is);
}

-- bytes that are refused as a field, by a fault that is no shortage of memory where they are none
pub refused : {B : Type 0} (IsField : List ℕ → Type 0) (view : B → List ℕ) (old new : Rest) (bytes : List ℕ) (fault : PathFault) (answer : FieldFault)
    → TakesBytes old (plain_text bytes) new → IsText bytes → ((f : List ℕ) → IsField f → IsText f) → (IsField bytes → fault ≡ path.Memory)
    → (fault ≡ path.Memory → answer ≡ field.Memory) → (fault ≢ path.Memory → answer ≡ field.Bad old.at) → Reads plain_text IsField old view (Err answer)
refused IsField view old new bytes path.Memory answer takes text short good memory bad = rw (memory refl) tt
refused IsField view old new bytes path.Empty answer takes text short good memory bad =
    rw (bad (λ e. absurd cc)) (lacks IsField old new bytes takes text short (λ is. let e = good is in absurd cc))
refused IsField view old new bytes path.NotRoot answer takes text short good memory bad =
    rw (bad (λ e. absurd cc)) (lacks IsField old new bytes takes text short (λ is. let e = good is in absurd cc))
refused IsField view old new bytes (path.BadNode at) answer takes text short good memory bad =
    rw (bad (λ e. absurd cc)) (lacks IsField old new bytes takes text short (λ is. let e = good is in absurd cc))
refused IsField view old new bytes (path.TooLong at) answer takes text short good memory bad =
    rw (bad (λ e. absurd cc)) (lacks IsField old new bytes takes text short (λ is. let e = good is in absurd cc))
