-- What is known of a file that was built for a flush that is out.
use Rattle.std.proofs.Common.{◌≡◌, ℕ, List, Option, None, Some, ap, refl, sym, subst, ◌∙◌}
use Rattle.std.specs.Arc.{arc_value}
use Rattle.std.specs.Option.{option_map}
use Rattle.std.specs.Prelude.{IfSome, IsSome}
use Rattle.std.proofs.lemmas.Bool.{false≢true}
use Rattle.tsdb_base.specs.declared.ids.FileNumber.{FileNumber}
use Rattle.tsdb_base.specs.declared.ids.Space.{Space}
use Rattle.tsdb_compactions.proofs.FlushContents.{tree_of_part}
use Rattle.tsdb_compactions.proofs.Entries.{described}
use Rattle.tsdb_compactions.proofs.Memory.{content_of_part}
use Rattle.tsdb_compactions.specs.BuiltParts.{IsContentOfPart, IsJobOf, IsPart}
use Rattle.tsdb_tasks.proofs.Parts.{is_part}
use Rattle.tsdb_tasks.specs.Files.{IsOfPart, NewFile, known_entry, file_number}
use Rattle.tsdb_fileset.specs.StateOfFiles.{entry_of}
use Rattle.tsdb_compactions.specs.FlushJobs.{IsJob, job_part}
use Rattle.tsdb_compactions.specs.Parts.{Filled, IsNumberDrawnFor}
use Rattle.tsdb_compactions.specs.FlushJob.{FlushJob}
use Rattle.tsdb_state.specs.Places.{Content}
use Rattle.tsdb_model.specs.declared.command.Schema.{Schema}
use Rattle.tsdb_memory.specs.StateOfMemory.{IsPairContent as IsShownAs}
use Rattle.tsdb_outside.specs.Files.{Store}
use Rattle.tsdb_pages.specs.File.{IsFile}
use Rattle.tsdb_pages.specs.Trees.{IsMade, IsTree}
use Rattle.tsdb_pages.specs.declared.tree.Tree.{Tree}
use Rattle.tsdb_state.specs.Stores.{IsTreeContent}
use Rattle.tsdb_state.specs.Jobs.{Describes}

-- the number was drawn for the file, no right to read it is out, and the entry and the name of the token are of it
pub record IsDrawn (store : Store) (born : ℕ) (number : Option FileNumber) (file : NewFile) : Type 0 where
  pub drawn : option_map (λ (n : FileNumber). n.0) number ≡ Some (file_number file)
  pub born_is : file.entry.born.0 ≡ born
  pub unread : file.token.rights ≡ 0
  pub named : file.token.name.number ≡ file_number file
  pub in_store : file.token.name.store ≡ store

pub is_drawn : (store : Store) (born : ℕ) (part : List Filled) (number : Option FileNumber) (file : NewFile)
    → IsOfPart store born part number (Some file) → IsDrawn store born number file
is_drawn store born part None file is = absurd is
is_drawn store born part (Some number) file is = record {
  drawn = ap Some (sym is.kept.number_is);
  born_is = is.kept.born_is;
  unread = is.unread;
  named = is.names.number_is ∙ sym is.kept.number_is;
  in_store = is.in_store;
}

-- the file has the content, and what is kept of it says so
pub record HasPart (content : Content) (file : NewFile) : Type 0 where
  pub bytes : List ℕ
  pub tells : file.token.name.bytes ≡ Some bytes
  pub tree : Tree
  pub is_tree : IsTree tree
  pub is_made : IsMade tree
  pub is_file : IsFile tree bytes
  pub content_is : IsTreeContent tree content
  pub describes : Describes (known_entry file) content

module _ (job : FlushJob) (is_job : IsJob job) (series : List Schema)
    (of : IsJobOf series (arc_value job.pair) job.schemas job.series) (space : Space) where
  part_is : (number : Option FileNumber) → IsNumberDrawnFor number (job_part space job) → IsSome number
      → IsPart (job_part space job)
  part_is None drawn some = absurd (false≢true some)
  part_is (Some number) drawn some = is_part space (arc_value job.pair) job.schemas job.series is_job.formed
      is_job.rising
      (of.rising space) drawn

  pub has_part : (store : Store) (number : Option FileNumber) (file : NewFile) (content : Content)
      → IsShownAs series space (arc_value job.pair) content → IsNumberDrawnFor number (job_part space job)
      → IsOfPart store job.born.0 (job_part space job) number (Some file) → IsSome file.token.name.bytes
      → HasPart content file
  has_part store None file content shown drawn is tells = absurd is
  has_part store (Some number) file content shown drawn is tells =
      by file.token.name.bytes refl tells is.names.bytes_are
    where
      whole : IsPart (job_part space job)
      whole = part_is (Some number) drawn refl

      points : IsContentOfPart (job_part space job) content
      points = content_of_part series space (arc_value job.pair) job.schemas job.series content of shown

      by : (told : Option (List ℕ)) → file.token.name.bytes ≡ told → IsSome told → IfSome told (λ bytes. bytes ≡
          is.bytes)
          → HasPart content file
      by None are some same = absurd (false≢true some)
      by (Some bytes) are some same =
          let built = tree_of_part (job_part space job) is.bytes content whole is.file points in
          record {
            bytes = bytes;
            tells = are;
            tree = built.0;
            is_tree = built.1;
            is_made = built.2;
            is_file = subst (IsFile built.0) (sym same) built.3;
            content_is = built.4;
            describes = subst (λ (paths : List (List ℕ)). Describes (entry_of file.entry paths) content) (sym is.paths)
                (described (job_part space job) content points number.0 job.born.0 is.bytes file.entry whole is.kept);
          }
