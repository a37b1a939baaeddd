use Rattle.std.proofs.Common.{◌≡◌, List, None, map, refl, sym, ap, subst, ◌∙◌}
use Rattle.std.specs.Prelude.{IfSome}
use Rattle.tsdb_fileset.specs.Files.{KeptFiles}
use Rattle.tsdb_fileset.specs.Places.{file_at, place_of_number}
use Rattle.tsdb_fileset.specs.Replacing.{IsReplacedIn}
use Rattle.tsdb_fileset.proofs.Replaced.{CanReplace, entry_of_output, replaced_sound, store_of_output}
use Rattle.tsdb_flush.specs.Least.{least_with}
use Rattle.tsdb_plan.specs.declared.entry.FileEntry.{FileEntry}
use Rattle.tsdb_fileset.proofs.files.KeptFiles.replace.Goals as goal

pub invariant_of-self : goal.invariant_of-self
invariant_of-self g c =
    let number = c.args.number.0 in
    let Can : KeptFiles → Type 0 = λ files. CanReplace c.args.space c.args.sequence c.args.unsequence number files in
    let can = subst Can (sym c.self.view_is) (record {
      in_sequence = c.requires.sequence;
      in_unsequence = c.requires.unsequence;
      place = c.requires.place;
      list = c.requires.list;
      outgoing = c.requires.outgoing;
    }) in
    let of = entry_of_output number c.args.output _ _ c.place_output-entry.result
    (file_at (place_of_number number c.place_output-entry.new.places.entries)) c.place_output-entry.ensures.entry
    c.place_output-entry.ensures.file c.requires.numbered in
    let Is : KeptFiles → Type 0 = λ files. IfSome c.args.output
    (λ built. (g.F.Sealed.SealedFile.file built.sealed).store ≡ files.store) in
    replaced_sound g.F.Files.store c.args.space c.args.sequence c.args.unsequence number c.place_output-entry.result _ c.self.inside _
    c.self.invariant can of refl c.place_output-entry.ensures.others
    (record {
      middle = c.replace_in.new.outgoing;
      in_sequence = subst (λ entry. IsReplacedIn c.args.sequence entry c.self.inside.sequence c.replace_in.new.list
          c.self.inside.outgoing c.replace_in.new.outgoing) c.by_space-in_sequence.ensures.sequence
          c.replace_in.ensures;
      in_unsequence = subst (λ entry. IsReplacedIn c.args.unsequence entry c.self.inside.unsequence
          c.replace_in-2.new.list c.replace_in.new.outgoing c.replace_in-2.new.outgoing)
          c.by_space-in_sequence.ensures.unsequence c.replace_in-2.ensures;
    })
    c.less_compaction-self-inside.ensures
    (c.least_of-self-inside.ensures
    ∙ (λ i. least_with (c.least_of-least.ensures i) (map (λ (e : FileEntry). e.born.0) (c.deref-2.ensures.value i)))
    ∙ ap (λ (xs : List FileEntry). least_with (least_with None (map (λ (e : FileEntry). e.born.0) xs))
    (map (λ (e : FileEntry). e.born.0) c.replace_in-2.new.list.items)) c.deref.ensures.value) refl
    (store_of_output _ c.args.output _ _ c.place_output-entry.ensures.file
    (subst Is (sym c.self.view_is) c.requires.store))
