use Rattle.std.proofs.Common.{List, [], subst, take, rules}
use Rattle.std.proofs.lemmas.List.{take_all}
use Rattle.tsdb_pages.specs.declared.tree.Group.{Group}
use Rattle.tsfile_writer.specs.Steps.{AreGroupsWritten}
use Rattle.tsfile_writer.proofs.Appending.{file_made, if_ok_then, more_taken, some_entry}
use Rattle.tsfile_writer.proofs.tree.write_tree.Goals as goal

pub loop-group-preserved : goal.loop-group-preserved
loop-group-preserved c =
    let groups = c.args.tree.now.groups in
    subst (λ (gs : List Group). AreGroupsWritten gs c.write_group.new.into.items c.write_group.new.entries.items)
    (more_taken [] groups c.items-group-items.result.now c.loop-group.group-index c.group-item.result c.items-group-items.ensures c.loop-group-test.true c.group-item.is)
    (c.in_ok-write_group.ensures.ok (take c.loop-group.group-index groups) c.loop-group.invariant)

pub append_end-requires : goal.append_end-requires
append_end-requires c =
    let groups = c.args.tree.now.groups in
    some_entry groups c.loop-group.bytes.items c.loop-group.entries.items
    (subst (λ (gs : List Group). AreGroupsWritten gs c.loop-group.bytes.items c.loop-group.entries.items) (take_all c.loop-group.group-index groups (search rules)) c.loop-group.invariant)
    c.requires.some c.requires.groups

pub returns : goal.returns
returns c =
    let groups = c.args.tree.now.groups in
    let layout = subst (λ (gs : List Group). AreGroupsWritten gs c.loop-group.bytes.items c.loop-group.entries.items) (take_all c.loop-group.group-index groups (search rules)) c.loop-group.invariant in
    record {
      file = if_ok_then _ _ c.append_end.result
          (λ file made. file_made c.args.tree.now c.loop-group.bytes.items file.items made.0 made.1 c.loop-group.entries.items layout made.2 made.3)
          c.append_end.ensures;
    }
