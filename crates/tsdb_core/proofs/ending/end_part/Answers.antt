use Rattle.std.proofs.Common.{subst, sym}
use Rattle.std.specs.Option.{option_map}
use Rattle.tsdb_tasks.specs.Files.{file_built}
use Rattle.tsdb_core.proofs.OutputsBuilt.{listed_as, of_number, sent_as, unread}
use Rattle.tsdb_core.specs.Ending.{PartEnds}
use Rattle.tsdb_fileset.specs.Files.{IsOpen}
use Rattle.tsdb_fileset.specs.Room.{HasRoom}
use Rattle.tsdb_core.proofs.ending.end_part.Goals as goal

pub returns-in-Done : goal.returns-in-Done
returns-in-Done g c = listed_as g.F.Sealed.SealedFile.file g.F.Sealed.SealedFile.rights c.args.space c.args.number
    c.args.file
    c.in-Some.built c.in-Some.is c.requires.numbered c.args.commit c.args.files.now c.enlist.new.self c.in-Done.is
    c.enlist.ensures.entry c.enlist.ensures.outgoing c.enlist.ensures.file c.enlist.ensures.others c.enlist.ensures.room
    c.enlist.ensures.store

pub returns-in-Gone : goal.returns-in-Gone
returns-in-Gone g c = sent_as g.F.Sealed.SealedFile.file g.F.Sealed.SealedFile.rights c.args.space c.args.number
    c.args.file
    c.in-Some.built c.in-Some.is c.requires.numbered c.args.commit c.args.files.now c.send_out.new.self c.in-Gone.is
    c.send_out.ensures.sequence c.send_out.ensures.unsequence c.send_out.ensures.outgoing c.send_out.ensures.file
    c.send_out.ensures.others c.send_out.ensures.room c.send_out.ensures.store

pub returns-in_default : goal.returns-in_default
returns-in_default g c = subst (λ file. PartEnds c.args.commit c.args.space c.args.number
    (option_map (file_built g.F.Sealed.SealedFile.file) file) c.args.files.now c.give_up.new.files) (sym c.in_default.is)
    (c.give_up.ensures c.args.commit)

pub enlist-requires-clause-place : goal.enlist-requires-clause-place
enlist-requires-clause-place g c = λ lifetimes lives. of_number g.F.Sealed.SealedFile.file g.F.Sealed.SealedFile.rights
    c.args.space c.args.number c.args.file c.in-Some.built c.in-Some.is c.requires.numbered
    (λ n. IsOpen n c.args.files.now) c.requires.place

pub enlist-requires-clause-room : goal.enlist-requires-clause-room
enlist-requires-clause-room g c = λ lifetimes lives. of_number g.F.Sealed.SealedFile.file g.F.Sealed.SealedFile.rights
    c.args.space c.args.number c.args.file c.in-Some.built c.in-Some.is c.requires.numbered
    (λ n. HasRoom c.args.space c.args.files.now.spare) c.requires.room

pub enlist-requires-clause-no_rights : goal.enlist-requires-clause-no_rights
enlist-requires-clause-no_rights g c = λ lifetimes lives. unread g.F.Sealed.SealedFile.file g.F.Sealed.SealedFile.rights
    c.args.space c.args.number c.args.file c.in-Some.built c.in-Some.is c.requires.numbered

pub send_out-requires-clause-place : goal.send_out-requires-clause-place
send_out-requires-clause-place g c = λ lifetimes lives. of_number g.F.Sealed.SealedFile.file
    g.F.Sealed.SealedFile.rights
    c.args.space c.args.number c.args.file c.in-Some.built c.in-Some.is c.requires.numbered
    (λ n. IsOpen n c.args.files.now) c.requires.place

pub send_out-requires-clause-room : goal.send_out-requires-clause-room
send_out-requires-clause-room g c = λ lifetimes lives. of_number g.F.Sealed.SealedFile.file g.F.Sealed.SealedFile.rights
    c.args.space c.args.number c.args.file c.in-Some.built c.in-Some.is c.requires.numbered
    (λ n. HasRoom c.args.space c.args.files.now.spare) c.requires.room

pub send_out-requires-clause-no_rights : goal.send_out-requires-clause-no_rights
send_out-requires-clause-no_rights g c = λ lifetimes lives. unread g.F.Sealed.SealedFile.file
    g.F.Sealed.SealedFile.rights c.args.space c.args.number c.args.file c.in-Some.built c.in-Some.is c.requires.numbered
