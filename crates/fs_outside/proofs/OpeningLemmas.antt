-- The calls on a directory that open a store, one after another.
use Rattle.std.proofs.Common.{◌≡◌, ◌≢◌, ◌⊎◌, ◌↔◌, ◌≤◌, ℕ, Bool, true, false, List, [], ◌∷◌, inl, inr, ⊎_elim, refl, sym, subst, ap, ◌∙◌, arith}
use Rattle.std.specs.Prelude.{Some, None, IfSome, IsTrue, Result, Ok, Err, IfOk, OnOk}
use Rattle.std.specs.Option.{IsSomeAnd}
use Rattle.std.specs.declared.option.Option.{Option}
use Rattle.std.proofs.lemmas.Bool.{false≢true}
use Rattle.std.proofs.lemmas.Option.{IfSome_then}
use Rattle.tsdb_base.specs.Causes.{Rose}
use Rattle.tsdb_outside.specs.declared.disk.Slot.{Slot}
use Rattle.tsdb_outside.specs.declared.disk.Slot.TheVariants.{A, B}
use Rattle.fs_outside.specs.Directory.{Becomes}
use Rattle.fs_outside.specs.SlotDirectory.{DirectoryImage, DirectoryView, DirectoryState, AreNamesDurable, ElapsesBy, HasNames}
use Rattle.fs_outside.specs.SlotDirectory.{HasSlots, IsLawfulDirectory, IsLeft, IsOneZero, IsRenamed, IsUnfinished, KeepsDirectory}
use Rattle.fs_outside.specs.SlotDirectory.{MayRename, StaysDurable, new_directory, silent_directory, slot_in, with_own_name, with_slot_file}
use Rattle.fs_outside.specs.SlotDirectory.{with_locked_slots, with_synced_slot, with_unfinished}
use Rattle.fs_outside.specs.Opening.{AreSlotsLocked, HasLostSlot, HasNewSlot, HasOwnName, IsDurableAs, IsMadeNew, IsNewOrUnfinished, KeepsStore}
use Rattle.fs_outside.specs.Opening.{LeavesUnfinished, MakesStore, with_new_slot}
use Rattle.fs_outside.proofs.DirectoryLemmas.{becomes_twice}

-- a stop leaves synced bytes under a durable name
left_is_seen : (seen left : Option (List ℕ)) → IsLeft true seen left → left ≡ seen
left_is_seen None left same = same
left_is_seen (Some bytes) None none = absurd none
left_is_seen (Some bytes) (Some left) same = ap (λ (l : List ℕ). Some l) (same refl)

same_image : (x y : DirectoryImage) → x.a ≡ y.a → x.b ≡ y.b → x.has_files ≡ y.has_files → x ≡ y
same_image x y a b files =
    let made : Option (List ℕ) → Option (List ℕ) → Bool → DirectoryImage =
    λ a b files. record { a = a; b = b; has_files = files } in
    let same : made x.a x.b x.has_files ≡ made y.a y.b y.has_files = cc (a, b, files) in
    same

abbrev both_synced : DirectoryView → DirectoryView
both_synced view = with_synced_slot B (with_synced_slot A view)

all_durable : (view : DirectoryView) (directory : DirectoryState) → directory.seen ≡ Some (both_synced view)
    → AreNamesDurable directory → IsDurableAs view.image directory
all_durable view directory seen names =
    let named : (image : DirectoryImage) → directory.may_leave image → HasNames (both_synced view) image =
    subst (λ (o : Option DirectoryView). IfSome o (λ v. (image : DirectoryImage) → directory.may_leave image
    → HasNames v image)) seen names in
    let only : (left : DirectoryImage) → directory.may_leave left → left ≡ view.image = λ left may.
    let is = named left may in
    same_image left view.image (left_is_seen view.image.a left.a is.a) (left_is_seen view.image.b left.b is.b) is.files in
    subst (λ (o : Option DirectoryView). IsSomeAnd o (λ v. (v.image ≡ view.image)
    × ((left : DirectoryImage) → directory.may_leave left → left ≡ view.image))) (sym seen) (refl, only)

-- both slots are synced, and then the names
pub slots_are_durable : (x y : Slot) (a b c : Option DirectoryView) (directory : DirectoryState) → x ≡ A → y ≡ B
    → Becomes (with_synced_slot x) a b → Becomes (with_synced_slot y) b c → directory.seen ≡ c
    → AreNamesDurable directory → IfSome a (λ view. IsDurableAs view.image directory)
slots_are_durable x y None b c directory first second one two same names = tt
slots_are_durable x y (Some view) b c directory first second one two same names =
    let b_is : b ≡ Some (with_synced_slot A view) =
    subst (λ (s : Slot). b ≡ Some (with_synced_slot s view)) first one in
    let two_b : Becomes (with_synced_slot B) b c = subst (λ (s : Slot). Becomes (with_synced_slot s) b c) second two in
    let c_is : c ≡ Some (both_synced view) =
    subst (λ (o : Option DirectoryView). Becomes (with_synced_slot B) o c) b_is two_b in
    all_durable view directory (same ∙ c_is) names

-- and the directory is still named
name_of_synced : (x : Slot) (view : DirectoryView) → (with_synced_slot x view).is_named ≡ view.is_named
name_of_synced A view = refl
name_of_synced B view = refl

-- what a view says of other things than its slots' bytes
abbrev KeptBySyncs : (DirectoryView → Bool) → Type 0
KeptBySyncs p = (x : Slot) (view : DirectoryView) → p (with_synced_slot x view) ≡ p view

still_so : (p : DirectoryView → Bool) → KeptBySyncs p → (x : Slot) (a b : Option DirectoryView) → Becomes (with_synced_slot x) a b
    → IsSomeAnd a (λ view. IsTrue (p view)) → IsSomeAnd b (λ view. IsTrue (p view))
still_so p keeps x None b synced so = absurd so
still_so p keeps x (Some view) b synced so =
    subst (λ (o : Option DirectoryView). IsSomeAnd o (λ v. IsTrue (p v))) (sym synced) (keeps x view ∙ so)

stays_so : (p : DirectoryView → Bool) → KeptBySyncs p → (x y : Slot) (a b c d : Option DirectoryView) → Becomes (with_synced_slot x) a b
    → Becomes (with_synced_slot y) b c → d ≡ c → IsSomeAnd a (λ view. IsTrue (p view)) → IsSomeAnd d (λ view. IsTrue (p view))
stays_so p keeps x y a b c d one two same so = subst (λ (o : Option DirectoryView). IsSomeAnd o (λ view. IsTrue (p view))) (sym same)
    (still_so p keeps y b c two (still_so p keeps x a b one so))

pub stays_named : (x y : Slot) (a b c d : Option DirectoryView) → Becomes (with_synced_slot x) a b → Becomes (with_synced_slot y) b c
    → d ≡ c → IsSomeAnd a (λ view. IsTrue view.is_named) → IsSomeAnd d (λ view. IsTrue view.is_named)
stays_named = stays_so (λ (view : DirectoryView). view.is_named) name_of_synced

-- and the slots are still locked
lock_of_synced : (x : Slot) (view : DirectoryView) → (with_synced_slot x view).is_locked ≡ view.is_locked
lock_of_synced A view = refl
lock_of_synced B view = refl

pub stays_locked : (x y : Slot) (a b c d : Option DirectoryView) → Becomes (with_synced_slot x) a b → Becomes (with_synced_slot y) b c
    → d ≡ c → IsSomeAnd a (λ view. IsTrue view.is_locked) → IsSomeAnd d (λ view. IsTrue view.is_locked)
stays_locked = stays_so (λ (view : DirectoryView). view.is_locked) lock_of_synced

-- what is locked has the bytes and the name that it had
image_of_locked : (x y : Slot) (view : DirectoryView) → (with_locked_slots x y view).image ≡ view.image
image_of_locked A A view = refl
image_of_locked A B view = refl
image_of_locked B y view = refl

name_of_locked : (x y : Slot) (view : DirectoryView) → (with_locked_slots x y view).is_named ≡ view.is_named
name_of_locked A A view = refl
name_of_locked A B view = refl
name_of_locked B y view = refl

pub durable_locked : (x y : Slot) (a b : Option DirectoryView) (d : DirectoryState) → Becomes (with_locked_slots x y) a b
    → IfSome b (λ view. IsDurableAs view.image d) → IfSome a (λ view. IsDurableAs view.image d)
durable_locked x y None b d locked durable = tt
durable_locked x y (Some view) b d locked durable =
    let here : IsDurableAs (with_locked_slots x y view).image d =
    subst (λ (o : Option DirectoryView). IfSome o (λ v. IsDurableAs v.image d)) locked durable in
    subst (λ (image : DirectoryImage). IsDurableAs image d) (image_of_locked x y view) here

pub named_locked : (x y : Slot) (a b : Option DirectoryView) → Becomes (with_locked_slots x y) a b
    → IsSomeAnd a (λ view. IsTrue view.is_named) → IsSomeAnd b (λ view. IsTrue view.is_named)
named_locked x y None b locked named = absurd named
named_locked x y (Some view) b locked named =
    subst (λ (o : Option DirectoryView). IsSomeAnd o (λ v. IsTrue v.is_named)) (sym locked) (name_of_locked x y view ∙ named)

pub locked_then : {P : Type 0} (x y : Slot) (a b : Option DirectoryView) → x ≡ A → y ≡ B → Becomes (with_locked_slots x y) a b
    → (IsSomeAnd b (λ view. IsTrue view.is_locked) → P) → IfSome a (λ _. P)
locked_then x y None b first second locked then = tt
locked_then x y (Some view) b first second locked then =
    let of_a : b ≡ Some (with_locked_slots A y view) =
    subst (λ (s : Slot). b ≡ Some (with_locked_slots s y view)) first locked in
    let both : b ≡ Some (with_locked_slots A B view) =
    subst (λ (s : Slot). b ≡ Some (with_locked_slots A s view)) second of_a in
    then (subst (λ (o : Option DirectoryView). IsSomeAnd o (λ v. IsTrue v.is_locked)) (sym both) refl)

-- behind a making comes a call that makes nothing else possible
pub makes_then_stays : (a b c : DirectoryState) → MakesStore a b → StaysDurable b c → MakesStore a c
makes_then_stays a b c makes stays = IfSome_then a.seen makes (λ view then unfinished. record {
  keeps = λ image left. stays.keeps image ((then unfinished).keeps image left);
  nothing_else = λ image left. (then unfinished).nothing_else image (stays.time image left);
})

pub stays_twice : (a b c : DirectoryState) → StaysDurable a b → StaysDurable b c → StaysDurable a c
stays_twice a b c first then = record {
  crash = λ image left. first.crash image (then.crash image left);
  keeps = λ image left. then.keeps image (first.keeps image left);
  time = λ image left. first.time image (then.time image left);
}

pub keeps_then_stays : (a b c : DirectoryState) → KeepsStore a b → StaysDurable b c → KeepsStore a c
keeps_then_stays a b c keeps stays = IfSome_then a.seen keeps (λ view then first. stays_twice a b c (then first) stays)

pub looks_twice : (a b c : DirectoryState) → KeepsDirectory a b → KeepsDirectory b c → KeepsDirectory a c
looks_twice a b c first then =
    record { seen = then.seen ∙ first.seen; stays = stays_twice a b c first.stays then.stays }

-- what holds of every view holds of the one that is told
always_some : {X : Type 0} (o : Option X) {P : X → Type 0} → ((x : X) → P x) → IfSome o P
always_some None each = tt
always_some (Some x) each = each x

-- two facts of the view that is told
both_some : {X : Type 0} (o : Option X) {P Q R : X → Type 0} → IfSome o P → IfSome o Q → ((x : X) → P x → Q x → R x) → IfSome o R
both_some None p q join = tt
both_some (Some x) p q join = join x p q

-- what is told of the view behind calls that only looked is told of the one before them
told_before : (a b : Option DirectoryView) (P : DirectoryView → Type 0) → b ≡ a → IfSome b P → IfSome a P
told_before a b P same holds = subst (λ (o : Option DirectoryView). IfSome o P) same holds

-- a call that makes nothing else possible is a part of a making, and of what leaves a store alone
pub stays_makes : (a b : DirectoryState) → StaysDurable a b → MakesStore a b
stays_makes a b stays = always_some a.seen (λ view unfinished. record {
  keeps = stays.keeps;
  nothing_else = λ image left. inl (stays.time image left);
})

pub stays_keeps : (a b : DirectoryState) → StaysDurable a b → KeepsStore a b
stays_keeps a b stays = always_some a.seen (λ view first. stays)

-- a making behind calls that make nothing else possible
pub stays_then_makes : (a b c : DirectoryState) → b.seen ≡ a.seen → StaysDurable a b → MakesStore b c → MakesStore a c
stays_then_makes a b c same stays makes = IfSome_then a.seen
    (told_before a.seen b.seen (λ _. LeavesUnfinished b → ElapsesBy IsNewOrUnfinished b c) same makes) (λ view then unfinished.
    let elapses : ElapsesBy IsNewOrUnfinished b c = then (λ image left. unfinished image (stays.crash image left)) in
    record {
      keeps = λ image left. elapses.keeps image (stays.keeps image left);
      nothing_else = λ image left.
          ⊎_elim (λ before. inl (stays.time image before)) (λ new. inr new) (elapses.nothing_else image left);
    })

-- A slot is looked for, and where the first one is not there, whether the store is not finished.
abbrev Looks : Slot → Bool → DirectoryView → Type 0
Looks slot there view = (IsTrue there → slot_in slot view.image ≢ None) × (¬ IsTrue there → slot_in slot view.image ≡ None)

abbrev Asks : Bool → DirectoryView → Type 0
Asks is view = view.image.a ≡ None → (IsTrue is ↔ IsUnfinished view.image)

first_missing : (seen : Option DirectoryView) (there : Bool) → there ≡ false → IfSome seen (λ view. Looks A there view)
    → IfSome seen (λ view. view.image.a ≡ None)
first_missing seen there not_there looked =
    IfSome_then seen looked (λ view is. is.1 (λ yes_there. false≢true (sym not_there ∙ yes_there)))

-- the first slot is there, and nothing is made
pub finished_before : (a b : DirectoryState) (there : Bool) → there ≡ true → IfSome a.seen (λ view. Looks A there view) → b.seen ≡ a.seen
    → IfSome a.seen (λ view. (IsUnfinished view.image × IsMadeNew b) ⊎ (view.image.a ≢ None × b.seen ≡ a.seen))
finished_before a b there is looked same = IfSome_then a.seen looked (λ view is_there. inr (is_there.0 is, same))

-- it is not there, and the store is finished
pub slot_is_lost : (a b : DirectoryState) (there is : Bool) → there ≡ false → IfSome a.seen (λ view. Looks A there view) → b.seen ≡ a.seen
    → is ≡ false → IfSome b.seen (λ view. Asks is view) → HasLostSlot a
slot_is_lost a b there is not_there looked same not_it asked =
    both_some a.seen (first_missing a.seen there not_there looked) (told_before a.seen b.seen (λ view. Asks is view) same asked)
    (λ view none exact. (λ unfinished. false≢true (sym not_it ∙ (exact none).1 unfinished), λ slots. slots.first none))

-- it is not there, and a store is made
pub finished_new : {T E : Type 0} (r : Result T E) (a b c d : DirectoryState) (there is : Bool) → there ≡ false
    → IfSome a.seen (λ view. Looks A there view) → b.seen ≡ a.seen → is ≡ true → IfSome b.seen (λ view. Asks is view) → c.seen ≡ b.seen
    → OnOk r (IfSome c.seen (λ view. IsUnfinished view.image → IsMadeNew d))
    → OnOk r (IfSome a.seen (λ view. (IsUnfinished view.image × IsMadeNew d) ⊎ (view.image.a ≢ None × d.seen ≡ a.seen)))
finished_new (Err e) a b c d there is not_there looked same is_it asked again made = tt
finished_new (Ok x) a b c d there is not_there looked same is_it asked again made =
    let unfinished : IfSome a.seen (λ view. IsUnfinished view.image) =
    both_some a.seen (first_missing a.seen there not_there looked) (told_before a.seen b.seen (λ view. Asks is view) same asked)
    (λ view none exact. (exact none).0 is_it) in
    both_some a.seen unfinished (told_before a.seen c.seen (λ view. IsUnfinished view.image → IsMadeNew d) (again ∙ same) made)
    (λ view first then. inl (first, then first))

-- where the first slot is not there, there is no store to keep
pub none_to_keep : (a b : DirectoryState) (there : Bool) → there ≡ false → IfSome a.seen (λ view. Looks A there view) → KeepsStore a b
none_to_keep a b there not_there looked =
    IfSome_then a.seen (first_missing a.seen there not_there looked) (λ view none first. absurd (first none))

-- The second slot is looked for, and where it is there, whether it is one byte 0.
no_files : (a : DirectoryState) (has : Bool) → IfSome a.seen (λ view. has ≡ view.image.has_files) → has ≡ false
    → IfSome a.seen (λ view. view.image.has_files ≡ false)
no_files a has looked none = IfSome_then a.seen looked (λ view is. sym is ∙ none)

pub asked_files : (a : DirectoryState) (has : Bool) → has ≡ true → IfSome a.seen (λ view. has ≡ view.image.has_files)
    → IfSome a.seen (λ view. Asks false view)
asked_files a has is looked = IfSome_then a.seen looked (λ view same none. (
  λ never. absurd (false≢true never),
  λ unfinished. absurd (false≢true (sym unfinished.files ∙ sym same ∙ is)),
))

pub asked_missing : (a b : DirectoryState) (has there : Bool) → has ≡ false → IfSome a.seen (λ view. has ≡ view.image.has_files)
    → b.seen ≡ a.seen → there ≡ false → IfSome b.seen (λ view. Looks B there view)
    → IfSome a.seen (λ view. Asks true view)
asked_missing a b has there not_has files same not_there looked =
    both_some a.seen (no_files a has files not_has) (told_before a.seen b.seen (λ view. Looks B there view) same looked) (λ view empty is none. (
      λ it. record { first = none; second = inl (is.1 (λ yes_there. false≢true (sym not_there ∙ yes_there))); files = empty },
      λ unfinished. refl,
    ))

one_zero : (b : Option (List ℕ)) → b ≢ None → (b ≡ None) ⊎ (b ≡ Some (0 ∷ [])) → b ≡ Some (0 ∷ [])
one_zero b there (inl none) = absurd (there none)
one_zero b there (inr is) = is

asked_view : (view : DirectoryView) (there is : Bool) → view.image.has_files ≡ false → there ≡ true
    → Looks B there view → (IsTrue is ↔ IsOneZero B view.image) → Asks is view
asked_view view there is empty it looked exact none = (
  λ yes_is. record { first = none; second = inr (exact.0 yes_is); files = empty },
  λ unfinished. exact.1 (one_zero view.image.b (looked.0 it) unfinished.second),
)

pub asked_zero : {E : Type 0} (r : Result Bool E) (a b c : DirectoryState) (has there : Bool) → has ≡ false
    → IfSome a.seen (λ view. has ≡ view.image.has_files) → b.seen ≡ a.seen → there ≡ true
    → IfSome b.seen (λ view. Looks B there view)
    → c.seen ≡ b.seen → IfOk r (λ is. IfSome c.seen (λ view. IsTrue is ↔ IsOneZero B view.image))
    → IfOk r (λ is. IfSome a.seen (λ view. Asks is view))
asked_zero (Err e) a b c has there not_has files same it looked again exact = tt
asked_zero (Ok is) a b c has there not_has files same it looked again exact =
    let known : IfSome a.seen (λ view. (view.image.has_files ≡ false)
    × (IsTrue there → slot_in B view.image ≢ None) × (¬ IsTrue there → slot_in B view.image ≡ None)) =
    both_some a.seen (no_files a has files not_has) (told_before a.seen b.seen (λ view. Looks B there view) same looked)
    (λ view empty is. (empty, is.0, is.1)) in
    both_some a.seen known (told_before a.seen c.seen (λ view. IsTrue is ↔ IsOneZero B view.image) (again ∙ same) exact)
    (λ view k exact. asked_view view there is k.0 it (k.1, k.2) exact)

-- A slot is made: its file is written under another name, and then has its own.
pub stays_elapses : (P : DirectoryImage → Type 0) (a b : DirectoryState) → StaysDurable a b → ElapsesBy P a b
stays_elapses P a b stays = record { keeps = stays.keeps; nothing_else = λ image left. inl (stays.time image left) }

pub stays_making : (slot : Slot) (a b : DirectoryState) → StaysDurable a b
    → IfSome a.seen (λ _. ElapsesBy (HasNewSlot slot a.may_leave) a b)
stays_making slot a b stays = always_some a.seen (λ view. stays_elapses (HasNewSlot slot a.may_leave) a b stays)

elapses_then_stays : (P : DirectoryImage → Type 0) (a b c : DirectoryState) → ElapsesBy P a b → StaysDurable b c → ElapsesBy P a c
elapses_then_stays P a b c elapses stays = record {
  keeps = λ image left. stays.keeps image (elapses.keeps image left);
  nothing_else = λ image left. elapses.nothing_else image (stays.time image left);
}

pub making_then_stays : (slot : Slot) (a b c : DirectoryState) → IfSome a.seen (λ _. ElapsesBy (HasNewSlot slot a.may_leave) a b)
    → StaysDurable b c → IfSome a.seen (λ _. ElapsesBy (HasNewSlot slot a.may_leave) a c)
making_then_stays slot a b c making stays =
    IfSome_then a.seen making (λ view elapses. elapses_then_stays (HasNewSlot slot a.may_leave) a b c elapses stays)

pub renamed_makes : (slot : Slot) (a b c : DirectoryState) → Becomes (with_unfinished (0 ∷ []) true) a.seen b.seen
    → StaysDurable a b → IfSome b.seen (λ view. MayRename slot view b c)
    → IfSome a.seen (λ _. ElapsesBy (HasNewSlot slot a.may_leave) a c)
renamed_makes slot a b c written stays moves = IfSome_then a.seen written (λ view is.
    let renames : MayRename slot (with_unfinished (0 ∷ []) true view) b c =
    subst (λ (o : Option DirectoryView). IfSome o (λ v. MayRename slot v b c)) is moves in
    let new : (image : DirectoryImage) → IsRenamed slot (with_unfinished (0 ∷ []) true view) b.may_leave image
    → HasNewSlot slot a.may_leave image = λ image renamed. record {
      before = renamed.before;
      left = stays.crash renamed.before renamed.left;
      made = renamed.renamed ∙ ap (λ (l : List ℕ). with_slot_file slot l renamed.before) (renamed.synced refl);
    } in
    record {
      keeps = λ image left. renames.time.keeps image (stays.keeps image left);
      nothing_else = λ image left.
          ⊎_elim (λ before. inl (stays.time image before)) (λ it. inr (new image it)) (renames.time.nothing_else image left);
    })

-- The second slot is made, and then the first.
second_slot : (image before : DirectoryImage) → image ≡ with_slot_file B (0 ∷ []) before → IsUnfinished before → IsUnfinished image
second_slot image before made unfinished = subst (λ (i : DirectoryImage). IsUnfinished i) (sym made)
    (record { first = unfinished.first; second = inr refl; files = unfinished.files })

pub second_made : (a b c : DirectoryState) → Becomes with_own_name a.seen b.seen → StaysDurable a b
    → IfSome b.seen (λ _. ElapsesBy (HasNewSlot B b.may_leave) b c) → MakesStore a c
second_made a b c named stays making = IfSome_then a.seen named (λ view is unfinished.
    let elapses : ElapsesBy (HasNewSlot B b.may_leave) b c =
    subst (λ (o : Option DirectoryView). IfSome o (λ _. ElapsesBy (HasNewSlot B b.may_leave) b c)) is making in
    let new : (image : DirectoryImage) → HasNewSlot B b.may_leave image → IsUnfinished image = λ image slot.
    second_slot image slot.before slot.made (unfinished slot.before (stays.crash slot.before slot.left)) in
    record {
      keeps = λ image left. elapses.keeps image (stays.keeps image left);
      nothing_else = λ image left.
          ⊎_elim (λ before. inl (stays.time image before)) (λ it. inr (inl (new image it))) (elapses.nothing_else image left);
    })

pub store_making : (a b c d : DirectoryState) → IsLawfulDirectory a → Becomes with_own_name a.seen b.seen
    → Becomes (with_new_slot B) b.seen c.seen → MakesStore a c → AreNamesDurable c
    → IfSome c.seen (λ _. ElapsesBy (HasNewSlot A c.may_leave) c d) → MakesStore a d
store_making a b c d laws named second makes durable making =
    let told : IfSome a.seen (λ view. c.seen ≡ Some (with_new_slot B (with_own_name view))) =
    becomes_twice with_own_name (with_new_slot B) a.seen b.seen c.seen named second in
    let known : IfSome a.seen (λ view. (c.seen ≡ Some (with_new_slot B (with_own_name view)))
    × (LeavesUnfinished a → ElapsesBy IsNewOrUnfinished a c)) =
    both_some a.seen told makes (λ view is then. (is, then)) in
    both_some a.seen known laws.seen_may_stay (λ view k stays unfinished.
    let names : (image : DirectoryImage) → c.may_leave image → HasNames (with_new_slot B (with_own_name view)) image =
    subst (λ (o : Option DirectoryView). IfSome o (λ v. (image : DirectoryImage) → c.may_leave image → HasNames v image)) k.0 durable in
    let elapses : ElapsesBy (HasNewSlot A c.may_leave) c d =
    subst (λ (o : Option DirectoryView). IfSome o (λ _. ElapsesBy (HasNewSlot A c.may_leave) c d)) k.0 making in
    let before : ElapsesBy IsNewOrUnfinished a c = k.1 unfinished in
    let new : (image : DirectoryImage) → HasNewSlot A c.may_leave image → image ≡ new_directory = λ image slot.
    let is : HasNames (with_new_slot B (with_own_name view)) slot.before = names slot.before slot.left in
    slot.made ∙ same_image (with_slot_file A (0 ∷ []) slot.before) new_directory refl
    (left_is_seen (Some (0 ∷ [])) slot.before.b is.b) (is.files ∙ (unfinished view.image stays).files) in
    record {
      keeps = λ image left. elapses.keeps image (before.keeps image left);
      nothing_else = λ image left.
          ⊎_elim (λ old. before.nothing_else image old) (λ it. inr (inr (new image it))) (elapses.nothing_else image left);
    })

pub store_made : {T E : Type 0} (r : Result T E) (a b c d : DirectoryState) → Becomes with_own_name a.seen b.seen
    → Becomes (with_new_slot B) b.seen c.seen → OnOk r (Becomes (with_new_slot A) c.seen d.seen)
    → OnOk r (IfSome a.seen (λ view. IsUnfinished view.image → IsMadeNew d))
store_made (Err e) a b c d named second first = tt
store_made (Ok x) a b c d named second first =
    let told : IfSome a.seen (λ view. c.seen ≡ Some (with_new_slot B (with_own_name view))) =
    becomes_twice with_own_name (with_new_slot B) a.seen b.seen c.seen named second in
    let all : IfSome a.seen (λ view. d.seen ≡ Some (with_new_slot A (with_new_slot B (with_own_name view)))) =
    becomes_twice (λ view. with_new_slot B (with_own_name view)) (with_new_slot A) a.seen c.seen d.seen told first in
    IfSome_then a.seen all (λ view is unfinished.
    let made = with_new_slot A (with_new_slot B (with_own_name view)) in
    subst (λ (o : Option DirectoryView). IsSomeAnd o (λ v. (v.image ≡ new_directory) × IsTrue v.is_named)) (sym is)
    (same_image made.image new_directory refl refl unfinished.files, refl))

-- Both slots are opened.
pub both_there : (a b : DirectoryState) → b.seen ≡ a.seen → IfSome a.seen (λ view. slot_in A view.image ≢ None)
    → IfSome b.seen (λ view. slot_in B view.image ≢ None) → IfSome a.seen (λ view. HasSlots view.image)
both_there a b same first second = both_some a.seen first (told_before a.seen b.seen (λ view. slot_in B view.image ≢ None) same second)
    (λ view one two. record { first = one; second = two })

pub first_not_opened : (a : DirectoryState) {R : Type 0} → R ⊎ IfSome a.seen (λ view. slot_in A view.image ≡ None)
    → R ⊎ IfSome a.seen (λ view. ¬ HasSlots view.image)
first_not_opened a (inl rose) = inl rose
first_not_opened a (inr none) = inr (IfSome_then a.seen none (λ view is slots. slots.first is))

pub second_not_opened : (a b : DirectoryState) (first mid last : ℕ) → b.seen ≡ a.seen → first ≤ mid
    → Rose mid last ⊎ IfSome b.seen (λ view. slot_in B view.image ≡ None)
    → Rose first last ⊎ IfSome a.seen (λ view. ¬ HasSlots view.image)
second_not_opened a b first mid last same later (inl rose) = inl (omega (arith, later, rose))
second_not_opened a b first mid last same later (inr none) =
    inr (IfSome_then a.seen (told_before a.seen b.seen (λ view. slot_in B view.image ≡ None) same none) (λ view is slots. slots.second is))

-- The store is finished, both slots are opened, and all is made durable.
abbrev IsFinished : Option DirectoryView → Option DirectoryView → Type 0
IsFinished before now = IfSome before (λ view. (IsUnfinished view.image × IsSomeAnd now (λ v. (v.image ≡ new_directory) × IsTrue v.is_named))
    ⊎ (view.image.a ≢ None × (now ≡ before)))

opened_new : (b c : Option DirectoryView) (d : DirectoryState) → c ≡ b
    → IsSomeAnd b (λ v. (v.image ≡ new_directory) × IsTrue v.is_named) → IfSome c (λ v. IsDurableAs v.image d)
    → (IsSomeAnd c (λ v. IsTrue v.is_named) → HasOwnName d) → IsDurableAs new_directory d × HasOwnName d
opened_new None c d same made durable named = absurd made
opened_new (Some v) c d same made durable named =
    let here : IsDurableAs v.image d = subst (λ (o : Option DirectoryView). IfSome o (λ w. IsDurableAs w.image d)) same durable in
    let name : IsTrue v.is_named → HasOwnName d =
    subst (λ (o : Option DirectoryView). IsSomeAnd o (λ w. IsTrue w.is_named) → HasOwnName d) same named in
    (subst (λ (i : DirectoryImage). IsDurableAs i d) made.0 here, name made.1)

pub opens_store : (before b c : Option DirectoryView) (d : DirectoryState) → IsFinished before b → c ≡ b
    → IfSome b (λ view. HasSlots view.image) → IfSome c (λ view. IsDurableAs view.image d)
    → (IsSomeAnd c (λ view. IsTrue view.is_named) → HasOwnName d)
    → IfSome before (λ view. (IsUnfinished view.image × IsDurableAs new_directory d × HasOwnName d)
    ⊎ (HasSlots view.image × IsDurableAs view.image d))
opens_store None b c d finished same slots durable named = tt
opens_store (Some view) b c d (inl new) same slots durable named =
    let opened = opened_new b c d same new.1 durable named in
    inl (new.0, opened.0, opened.1)
opens_store (Some view) b c d (inr old) same slots durable named = inr (
  subst (λ (o : Option DirectoryView). IfSome o (λ v. HasSlots v.image)) old.1 slots,
  subst (λ (o : Option DirectoryView). IfSome o (λ v. IsDurableAs v.image d)) (same ∙ old.1) durable,
)

-- a directory that tells goes on to tell
locked_of_told : (b : Option DirectoryView) (d : DirectoryState) → IsSomeAnd b (λ v. (v.image ≡ new_directory) × IsTrue v.is_named)
    → IfSome b (λ view. AreSlotsLocked d) → AreSlotsLocked d
locked_of_told None d told locked = absurd told
locked_of_told (Some v) d told locked = locked

pub locked_opened : (before b c : Option DirectoryView) (d : DirectoryState) → IsFinished before b → c ≡ b
    → IfSome c (λ view. AreSlotsLocked d) → IfSome before (λ view. AreSlotsLocked d)
locked_opened None b c d finished same locked = tt
locked_opened (Some view) b c d (inl new) same locked =
    locked_of_told b d new.1 (subst (λ (o : Option DirectoryView). IfSome o (λ v. AreSlotsLocked d)) same locked)
locked_opened (Some view) b c d (inr old) same locked =
    subst (λ (o : Option DirectoryView). IfSome o (λ v. AreSlotsLocked d)) (same ∙ old.1) locked

new_has_slots : (b : Option DirectoryView) → IsSomeAnd b (λ v. (v.image ≡ new_directory) × IsTrue v.is_named)
    → IfSome b (λ view. ¬ HasSlots view.image) → ⊥
new_has_slots None made gone = made
new_has_slots (Some v) made gone = gone (subst (λ (i : DirectoryImage). HasSlots i) (sym made.0)
    (record { first = λ is. absurd cc; second = λ is. absurd cc }))

lost_behind : (before b : Option DirectoryView) → IsFinished before b → IfSome b (λ view. ¬ HasSlots view.image)
    → IfSome before (λ view. ¬ IsUnfinished view.image × ¬ HasSlots view.image)
lost_behind None b finished gone = tt
lost_behind (Some view) b (inl new) gone = absurd (new_has_slots b new.1 gone)
lost_behind (Some view) b (inr old) gone =
    (λ unfinished. old.0 unfinished.first, subst (λ (o : Option DirectoryView). IfSome o (λ v. ¬ HasSlots v.image)) old.1 gone)

-- the slots of a store that is finished are not opened
pub not_reopened : (before b : Option DirectoryView) (first mid last : ℕ) → IsFinished before b → first ≤ mid
    → Rose mid last ⊎ IfSome b (λ view. ¬ HasSlots view.image)
    → Rose first last ⊎ IfSome before (λ view. ¬ IsUnfinished view.image × ¬ HasSlots view.image)
not_reopened before b first mid last finished later (inl rose) = inl (omega (arith, later, rose))
not_reopened before b first mid last finished later (inr gone) = inr (lost_behind before b finished gone)

-- a directory that tells nothing
stays_silent : StaysDurable silent_directory silent_directory
stays_silent = record { crash = λ image left. left; keeps = λ image left. left; time = λ image left. left }

pub keeps_silent : KeepsDirectory silent_directory silent_directory
keeps_silent = record { seen = refl; stays = stays_silent }
