-- The output of a compaction, as a core keeps it, and what is told of it.
use Rattle.std.specs.Prelude.{◌≡◌, ℕ, List, [], ◌∷◌, None, Some}
use Rattle.std.specs.FinMap.{get}
use Rattle.tsdb_tasks.specs.Files.{NewFile, NewFiles, at_file, kept_with, known_entry, file_number}
use Rattle.tsdb_fileset.specs.StateOfFiles.{listed}
use Rattle.tsdb_state.specs.Layers.{value_in}
use Rattle.tsdb_state.specs.Places.{Content, PointPlace}
use Rattle.tsdb_memory.specs.LogState.{Outside}
use Rattle.tsdb_pages.specs.File.{IsFile}
use Rattle.tsdb_pages.specs.Trees.{IsMade, IsTree}
use Rattle.tsdb_pages.specs.declared.tree.Tree.{Tree}
use Rattle.tsdb_state.specs.Stores.{IsTreeContent}
use Rattle.tsdb_state.specs.Jobs.{Describes, job_inputs}
use Rattle.tsdb_state.specs.State.{Compaction, File, ToldContents}
use Rattle.tsdb_state.specs.Views.{file_layers}

-- The file is the output of the compaction: it has its number and its born, no right to read it is out, and it has the
-- winners of the inputs. Its token tells bytes, which are those of a tree with these points, and what is kept of it
-- says so.
pub record IsNewOutput (told : ToldContents) (job : Compaction) (content : Content) (file : NewFile) : Type 0 where
  pub number_is : file_number file ≡ job.output
  pub born_is : file.entry.born.0 ≡ job.born
  pub unread : file.token.rights ≡ 0
  pub named : file.token.name.number ≡ file_number file
  pub winners : (place : PointPlace) → get content place ≡ value_in job.marks place (file_layers told (job_inputs job))
  pub bytes : List ℕ
  pub tells : file.token.name.bytes ≡ Some bytes
  pub tree : Tree
  pub is_tree : IsTree tree
  pub is_made : IsMade tree
  pub is_file : IsFile tree bytes
  pub content_is : IsTreeContent tree content
  pub describes : Describes (known_entry file) content

-- the output, as the engine state has it
abbrev pub output_file : NewFile → List File
output_file file = listed file.entry ∷ []

-- the output as the only new file
abbrev pub only_output : NewFile → NewFiles
only_output file = record { sequence = Some file; unsequence = None }

-- the output is kept and known, and told with this content
abbrev pub with_output : Content → NewFile → Outside → Outside
with_output content file outside = record outside {
  kept = kept_with (only_output file) outside.kept;
  told = at_file (Some file) (λ f. content) outside.told;
  known = at_file (Some file) known_entry outside.known;
}
