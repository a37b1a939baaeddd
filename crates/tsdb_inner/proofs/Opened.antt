-- Inputs whose indexes were read.
use Rattle.std.proofs.Common.{◌≡◌, ◌∙◌, ℕ, ◌≤◌, List, [], ◌∷◌, map, Result, Ok, Err, refl, sym, subst, arith}
use Rattle.std.specs.Prelude.{All, IfOk, IfSome, IsSome, Option, None, Some}
use Rattle.std.specs.List.{AllByRecursion as Each, AllZip}
use Rattle.std.proofs.lemmas.List.Elements.{All-cons, All-nil}
use Rattle.tsdb_streams.specs.IndexedFiles.{IsIndexed, source_of}
use Rattle.tsdb_streams.specs.declared.source.IndexedFile.{IndexedFile}
use Rattle.tsdb_streams.specs.Files.{HasReason}
use Rattle.tsdb_compactions.specs.Outputs.{IsInputRead, TellsTruth}
use Rattle.tsdb_compactions.specs.declared.job.Input.{Input}
use Rattle.tsdb_compactions.specs.declared.job.Job.{Job}
use Rattle.tsdb_inner.specs.Inputs.{IsInputLent, IsOpenedAs, IsWholeInput}
use Rattle.tsdb_inner.proofs.Series.{cause_of}
use Rattle.tsdb_outside.specs.Causes.{HasStoreCause}
use Rattle.tsdb_outside.specs.Files.{NamedFile}
use Rattle.tsdb_outside.specs.declared.faults.StoreFault.{StoreFault}
use Rattle.tsdb_pages.specs.File.{IsFile}
use Rattle.tsdb_pages.specs.Trees.{IsMade, IsTree}
use Rattle.tsdb_pages.specs.declared.tree.Tree.{Tree}
use Rattle.tsdb_state.specs.State.{ToldContents}

pub ok_both : {T E : Type 0} (P Q S : T → Type 0) → ((x : T) → P x → Q x → S x) → (result : Result T E) → IfOk result P
    → IfOk result Q → IfOk result S
ok_both P Q S step (Ok x) p q = step x p q
ok_both P Q S step (Err e) p q = tt

module _ {F S R P : Type 0} (name : R → NamedFile) where
  pub lent_of : (inputs : List (Input F S R P)) (files : List (IndexedFile R)) → AllZip (IsOpenedAs name) inputs files
      → AllZip IsInputLent inputs (map source_of files)
  lent_of [] [] zip = tt
  lent_of [] (file ∷ files) zip = absurd zip
  lent_of (input ∷ inputs) [] zip = absurd zip
  lent_of (input ∷ inputs) (file ∷ files) zip = (zip.0.0, lent_of inputs files zip.1)

  pub indexed_of : (inputs : List (Input F S R P)) (files : List (IndexedFile R)) → AllZip (IsOpenedAs name) inputs files
      → All (IsIndexed name) files
  indexed_of [] [] zip = All-nil (IsIndexed name)
  indexed_of [] (file ∷ files) zip = absurd zip
  indexed_of (input ∷ inputs) [] zip = absurd zip
  indexed_of (input ∷ inputs) (file ∷ files) zip =
      All-cons (IsIndexed name) file files zip.0.1 (indexed_of inputs files zip.1)

  -- an input whose points are told is whole
  whole_of : (told : ToldContents) (input : Input F S R P) → (IsSome (name input.right).bytes → IsInputRead name told input)
      → IsWholeInput name input
  whole_of told input read = by (name input.right).bytes refl
    where
      some_same : (x y : List ℕ) → Some x ≡ Some y → x ≡ y
      some_same x y is = cc

      by : (o : Option (List ℕ)) → (name input.right).bytes ≡ o
          → IfSome o (λ bytes. (tree : Tree) × IsTree tree × IsMade tree × IsFile tree bytes)
      by None is = tt
      by (Some bytes) is =
          let whole = read (subst IsSome (sym is) refl) in (
            whole.tree,
            whole.is_tree,
            whole.is_made,
            subst (IsFile whole.tree) (some_same whole.bytes bytes (sym whole.there ∙ is)) whole.is_file,
          )

  pub all_whole : (told : ToldContents) (inputs : List (Input F S R P))
      → Each (λ input. IsSome (name input.right).bytes → IsInputRead name told input) inputs → Each (IsWholeInput name) inputs
  all_whole told [] reads = tt
  all_whole told (input ∷ inputs) reads = (whole_of told input reads.0, all_whole told inputs reads.1)

  -- a fault of reading the indexes has its cause where what is told is the truth
  pub opening_cause : {T U : Type 0} (job : Job F S R P) (inputs : List (Input F S R P)) → inputs ≡ job.inputs → (a b : ℕ)
      (fault : StoreFault) → HasReason {T = T} (Each (IsWholeInput name) inputs) a b (Err fault)
      → (told : ToldContents) → TellsTruth name told job → HasStoreCause {T = U} a b (Err fault)
  opening_cause job inputs are a b fault reason told truth =
      cause_of (Each (IsWholeInput name) inputs) a b fault reason (all_whole told inputs
      (subst (Each (λ (input : Input F S R P). IsSome (name input.right).bytes → IsInputRead name told input)) (sym are) truth.read))
