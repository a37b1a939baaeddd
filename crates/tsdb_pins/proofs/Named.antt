-- The series of a pin are of a device with a measurement.
use Rattle.std.proofs.Common.{◌≡◌, ℕ, ◌≤◌, true, false, eqb, List, [], ◌∷◌, length, refl, subst, sym, arith}
use Rattle.std.specs.List.{AllZip, onto_first}
use Rattle.std.proofs.lemmas.List.Splits.{slice_split-cons_no, slice_split-cons_yes}
use Rattle.tsdb_base.specs.declared.point.Range.{Range}
use Rattle.tsdb_pin.specs.Files.{KeptFiles}
use Rattle.tsdb_model.specs.declared.command.Item.{Item}
use Rattle.tsdb_memory.specs.Store.{MemoryState}
use Rattle.tsdb_outside.specs.Files.{NamedFile}
use Rattle.tsdb_path.proofs.Parts.{parts_some}
use Rattle.tsdb_path.specs.Nodes.{child_of, dot, node_count, parts}
use Rattle.tsdb_pin.specs.Pins.{IsColumnFor}
use Rattle.tsdb_pin.specs.declared.pin.Column.{Column}
use Rattle.tsdb_pins.specs.Reading.{HaveNodes}

no_fewer : (byte : ℕ) (nodes : List (List ℕ)) → length nodes ≤ length (onto_first byte nodes)
no_fewer byte [] = omega arith
no_fewer byte (node ∷ nodes) = omega arith

-- what stands behind a dot is a further node
two_nodes : (device name : List ℕ) → 2 ≤ node_count (child_of device name)
two_nodes [] name = subst (λ all. 2 ≤ length all) (sym (slice_split-cons_yes (λ b. eqb b dot) dot name refl))
    (omega (arith, parts_some name))
two_nodes (byte ∷ device) name = elim (eqb byte dot) as (λ t. eqb byte dot ≡ t
    → 2 ≤ node_count (child_of (byte ∷ device) name)) [
      | true ↦ λ is. subst (λ all. 2 ≤ length all) (sym (slice_split-cons_yes (λ b. eqb b dot) byte (child_of device name) is))
          (omega (arith, two_nodes device name))
      | false ↦ λ is. subst (λ all. 2 ≤ length all) (sym (slice_split-cons_no (λ b. eqb b dot) byte (child_of device name) is))
          (omega (arith, two_nodes device name, no_fewer byte (parts (child_of device name))))
    ] refl

pub have_nodes : {F S R P : Type 0} (name : R → NamedFile) (files : KeptFiles) (memory : MemoryState) (device : List ℕ) (range : Range)
    (items : List Item) (columns : List (Column F S R P)) → AllZip (IsColumnFor name files memory device range) items columns
    → HaveNodes columns
have_nodes name files memory device range [] [] zip = tt
have_nodes name files memory device range [] (column ∷ columns) zip = absurd zip
have_nodes name files memory device range (item ∷ items) [] zip = absurd zip
have_nodes name files memory device range (item ∷ items) (column ∷ columns) zip = (
  subst (λ path. 2 ≤ node_count path) (sym zip.0.of_path) (two_nodes device item.measurement),
  have_nodes name files memory device range items columns zip.1,
)
