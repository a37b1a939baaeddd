use Rattle.std.proofs.lemmas.Grind.{common_steps}
use Rattle.std.proofs.Common.{◌≡◌, ℕ, List, [], ◌∷◌, ◌++◌, None, ◌⊎◌, ◌∙◌, ap, subst, arith}
use Rattle.std.specs.Prelude.{Option}
use Rattle.tsdb_path.specs.Nodes.{device_of, measurement_of}
use Rattle.tsdb_pages.specs.File.{head}
use Rattle.tsdb_index.specs.declared.marks.TheConstants.{VERSION}
use Rattle.tsfile_writer.specs.declared.builder.OpenSeries.{OpenSeries}
use Rattle.tsfile_writer.specs.Building.{IsGiven}
use Rattle.tsfile_writer.specs.BuilderInput.{MayBeFollowedBy, GivenSeries, given_series}
use Rattle.tsfile_writer.proofs.Waiting.{state_at}
use Rattle.tsfile_writer.proofs.Closing.{first_begun, names_before, next_begun}
use Rattle.tsfile_writer.proofs.builder.Builder.series.Goals as goal
use Rattle.tsfile_writer.proofs.builder.Builder.series.Goals.{in-Some+in_ok-close-in-Some, in-None+in_ok-extend_from_slice-in-None}

pub returns-clause-ok : goal.returns-clause-ok
returns-clause-ok c = λ given was.
    let bytes = c.args.self.now.bytes.items in
    let entries = c.args.self.now.entries.items in
    let path = c.args.schema_path.now in
    let next = c.in_ok-next.next in
    let made = c.in_ok-next.ensures in
    let new_given = given ++ given_series path c.args.data_type c.args.encoding ∷ [] in
    elim c.match-self.branch [
      | in-Some+in_ok-close-in-Some w ↦
          let last = w.in-Some.last in
          let closed = w.in_ok-close-in-Some.ensures.ok given (subst (IsGiven given bytes entries) w.in-Some.is was) in
          let follows = subst (λ (o : Option OpenSeries). IsGiven [] bytes entries o ⊎ ((front : List GivenSeries) × (last : GivenSeries) × IsGiven (front ++ last ∷ []) bytes entries o × MayBeFollowedBy (device_of path) (measurement_of path) last)) w.in-Some.is c.requires.follows in
          let names = names_before bytes entries last.path last.data_type last.encoding last.chunk last.points.items (device_of path) (measurement_of path) follows in
          let begun = next_begun given (device_of last.path) (measurement_of last.path) w.close.new.into.items w.close.new.entries.items path c.args.data_type c.args.encoding closed c.requires.nodes c.requires.suits made.good names in
          rw (w.self-is, made.chunk) (state_at new_given w.close.new.into.items w.close.new.entries.items path next.path c.args.data_type next.data_type c.args.encoding next.encoding None [] next.points.items begun made.path made.data_type made.encoding made.points)
      | in-None+in_ok-extend_from_slice-in-None w ↦
          let empty = subst (IsGiven given bytes entries) w.in-None.is was in
          let there : w.extend_from_slice.new.self.items ≡ head VERSION = w.in_ok-extend_from_slice-in-None.ensures.items ∙ ap (λ (l : List ℕ). l ++ head VERSION) empty.no_bytes in
          let begun = first_begun w.extend_from_slice.new.self.items entries path c.args.data_type c.args.encoding there empty.no_entries c.requires.nodes c.requires.suits made.good in
          rw (w.self-is, made.chunk, empty.none) (state_at (given_series path c.args.data_type c.args.encoding ∷ []) w.extend_from_slice.new.self.items entries path next.path c.args.data_type next.data_type c.args.encoding next.encoding None [] next.points.items begun made.path made.data_type made.encoding made.points)
    ]

pub close-requires : goal.close-requires
close-requires c = grind (arith, common_steps)
