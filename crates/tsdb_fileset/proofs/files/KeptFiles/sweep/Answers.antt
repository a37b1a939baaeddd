use Rattle.std.proofs.Common.{◌≡◌, List, length, refl, sym, subst}
use Rattle.std.specs.Prelude.{IfOk, OnErr, OnOk}
use Rattle.tsdb_fileset.specs.declared.files.Outgoing.{Outgoing}
use Rattle.tsdb_fileset.specs.Files.{KeptFiles}
use Rattle.tsdb_fileset.specs.Places.{AreOfStore, TakesAway}
use Rattle.tsdb_fileset.specs.Sweeps.{AreOnce, LeavesWithout, StopsSweepAt, free_numbers, tried_numbers}
use Rattle.tsdb_fileset.specs.SoundFiles.{view_of}
use Rattle.tsdb_fileset.proofs.Swept.{once, swept_failed, swept_ok, swept_sound}
use Rattle.tsdb_fileset.proofs.files.KeptFiles.sweep.Goals as goal

pub remove_free-swept-requires-clause-store : goal.remove_free-swept-requires-clause-store
remove_free-swept-requires-clause-store g c = λ lifetimes lives.
    let Is : KeptFiles → Type 0 = λ files. g.F.Port.Port.store c.args.port.now ≡ files.store in
    subst (λ store. AreOfStore store c.self.inside.tokens.entries)
    (sym (subst Is (sym c.self.view_is) c.requires.store)) c.self.invariant.of_store

pub remove_free-swept-requires-clause-once : goal.remove_free-swept-requires-clause-once
remove_free-swept-requires-clause-once g c = λ lifetimes lives.
    subst AreOnce (sym c.deref.ensures.value) (once (view_of g.F.Files.store c.self.inside) c.self.invariant.kept)

pub invariant_of-self : goal.invariant_of-self
invariant_of-self g c =
    let old = c.self.inside.tokens.entries in
    let new = c.remove_free-swept.new.places.entries in
    let Ok : List Outgoing → Type 0 = λ files.
    OnOk c.remove_free-swept.result (TakesAway (free_numbers c.args.doubted old files) old new) in
    let Err : List Outgoing → Type 0 = λ files. OnErr c.remove_free-swept.result
    ((stop : StopsSweepAt c.args.doubted old files) × TakesAway (tried_numbers c.args.doubted old stop) old new) in
    swept_sound g.F.Files.store c.args.doubted c.self.inside _ c.self.invariant c.keep_placed.ensures.files c.keep_placed.ensures.len
    c.keep_placed.ensures.capacity refl refl refl refl refl c.remove_free-swept.result
    (subst Ok c.deref.ensures.value c.remove_free-swept.ensures.ok)
    (subst Err c.deref.ensures.value c.remove_free-swept.ensures.failed)

pub returns-clause-count : goal.returns-clause-count
returns-clause-count g c =
    let Ok : List Outgoing → Type 0 = λ files. IfOk c.remove_free-swept.result
    (λ count. count ≡ length (free_numbers c.args.doubted c.self.inside.tokens.entries files)) in
    let Counted : KeptFiles → Type 0 = λ files. IfOk c.remove_free-swept.result
    (λ count. count ≡ length (free_numbers c.args.doubted files.places files.outgoing)) in
    subst Counted c.self.view_is (subst Ok c.deref.ensures.value c.remove_free-swept.ensures.count)

pub returns-clause-swept : goal.returns-clause-swept
returns-clause-swept g c =
    let old = c.self.inside.tokens.entries in
    let new = c.remove_free-swept.new.places.entries in
    let Ok : List Outgoing → Type 0 = λ files.
    OnOk c.remove_free-swept.result (TakesAway (free_numbers c.args.doubted old files) old new) in
    let inside =
    record c.self.inside { tokens = c.remove_free-swept.new.places; outgoing = c.keep_placed.new.outgoing } in
    let Left : KeptFiles → Type 0 = λ files. OnOk c.remove_free-swept.result
    (LeavesWithout (free_numbers c.args.doubted files.places files.outgoing) files
    (view_of g.F.Files.store inside)) in
    subst Left c.self.view_is
    (swept_ok g.F.Files.store c.args.doubted c.self.inside inside c.self.invariant c.keep_placed.ensures.files c.keep_placed.ensures.len
    c.keep_placed.ensures.capacity refl refl refl refl refl c.remove_free-swept.result
    (subst Ok c.deref.ensures.value c.remove_free-swept.ensures.ok))

pub returns-clause-failed : goal.returns-clause-failed
returns-clause-failed g c =
    let old = c.self.inside.tokens.entries in
    let new = c.remove_free-swept.new.places.entries in
    let Err : List Outgoing → Type 0 = λ files. OnErr c.remove_free-swept.result
    ((stop : StopsSweepAt c.args.doubted old files) × TakesAway (tried_numbers c.args.doubted old stop) old new) in
    let inside =
    record c.self.inside { tokens = c.remove_free-swept.new.places; outgoing = c.keep_placed.new.outgoing } in
    let Left : KeptFiles → Type 0 = λ files. OnErr c.remove_free-swept.result
    ((stop : StopsSweepAt c.args.doubted files.places files.outgoing)
    × LeavesWithout (tried_numbers c.args.doubted files.places stop) files
    (view_of g.F.Files.store inside)) in
    subst Left c.self.view_is
    (swept_failed g.F.Files.store c.args.doubted c.self.inside inside c.self.invariant c.keep_placed.ensures.files
    c.keep_placed.ensures.len c.keep_placed.ensures.capacity refl refl refl refl refl c.remove_free-swept.result
    (subst Err c.deref.ensures.value c.remove_free-swept.ensures.failed))
