use Rattle.std.proofs.Common.{rules, ◌≡◌, ◌<◌, length}
use Rattle.std.specs.Prelude.{slice_index_or}
use Rattle.mem_outside.specs.declared.entry.StoredEntry.{StoredEntry}
use Rattle.mem_outside.proofs.EntryLemmas.{none_there, takes_node}
use Rattle.mem_outside.proofs.entry.take_node.Goals as goal

pub returns-in_default-clause-none : goal.returns-in_default-clause-none
returns-in_default-clause-none c = none_there c.args.entries.now c.args.number (search rules)

pub returns-clause-none : goal.returns-clause-none
returns-clause-none c =
    let found : (c.in-Some.at < length c.args.entries.now) × ((d : StoredEntry) → (slice_index_or c.args.entries.now c.in-Some.at d).number ≡ c.args.number) = search rules in
    takes_node c.in-Some.at c.args.number c.args.entries.now c.in_ok-take_at.field-0 c.take_at.new.entries
    found.0 found.1 c.in_ok-take_at.ensures.node c.in_ok-take_at.ensures.rest
