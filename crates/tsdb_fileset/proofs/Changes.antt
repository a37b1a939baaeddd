-- What the calls leave sound.
use Rattle.std.proofs.Common.{◌≡◌, ◌++◌, map, Some, sym, ap, subst}
use Rattle.std.proofs.Common.{arith}
use Rattle.std.specs.declared.alloc.Global.{Global}
use Rattle.std.specs.declared.vec.Vec.{Vec}
use Rattle.tsdb_base.specs.declared.ids.Space.{Space}
use Rattle.tsdb_base.specs.declared.ids.Space.TheVariants.{Sequence, Unsequence}
use Rattle.tsdb_fileset.specs.declared.files.KeptFiles.TheInside.{Inside}
use Rattle.tsdb_fileset.specs.declared.files.Outgoing.{Outgoing}
use Rattle.tsdb_fileset.specs.declared.room.Spare.{Spare}
use Rattle.tsdb_fileset.specs.Files.{Appends, IsOpen, listed_borns}
use Rattle.tsdb_fileset.specs.Growth.{AppendsTo, HasOneMore, HasRoomLeft}
use Rattle.tsdb_fileset.specs.SoundFiles.{AreSound, view_of}
use Rattle.tsdb_fileset.specs.Places.{AreOfStore, KeptFile, OthersStay, file_at, place_of_number}
use Rattle.tsdb_fileset.specs.Room.{HasRoom, less_room}
use Rattle.tsdb_fileset.proofs.Leasts.{least_appended}
use Rattle.tsdb_fileset.proofs.Numbers.{appended, kept_more, sent_out}
use Rattle.tsdb_fileset.proofs.PlaceFacts.{all_with}
use Rattle.tsdb_flush.specs.Least.{IsLeastOf, lesser_born}
use Rattle.tsdb_outside.specs.Files.{Store}
use Rattle.tsdb_plan.specs.declared.entry.FileEntry.{FileEntry}

-- the other promised places are there once one of them is used
room_appended : (space : Space) (entry : FileEntry) (spare : Spare) (s s' u u' : Vec FileEntry Global)
    (outgoing : Vec Outgoing Global) → HasRoomLeft spare s u outgoing → HasRoom space spare
    → AppendsTo space entry s s' u u' → HasRoomLeft (less_room space spare) s' u' outgoing
room_appended Sequence entry spare s s' u u' outgoing left room is = record {
  sequence_room = omega (arith, left.sequence_room, room.0, is.0.len, is.0.capacity);
  unsequence_room = omega (arith, left.unsequence_room, is.1.len, is.1.capacity);
  outgoing_room = omega (arith, left.outgoing_room);
}
room_appended Unsequence entry spare s s' u u' outgoing left room is = record {
  sequence_room = omega (arith, left.sequence_room, is.0.len, is.0.capacity);
  unsequence_room = omega (arith, left.unsequence_room, room.0, is.1.len, is.1.capacity);
  outgoing_room = omega (arith, left.outgoing_room);
}

room_sent_out : (space : Space) (file : Outgoing) (spare : Spare) (s u : Vec FileEntry Global)
    (outgoing new : Vec Outgoing Global) → HasRoomLeft spare s u outgoing → HasRoom space spare
    → HasOneMore file outgoing new → HasRoomLeft (less_room space spare) s u new
room_sent_out Sequence file spare s u outgoing new left room is = record {
  sequence_room = omega (arith, left.sequence_room);
  unsequence_room = left.unsequence_room;
  outgoing_room = omega (arith, left.outgoing_room, room.1, is.len, is.capacity);
}
room_sent_out Unsequence file spare s u outgoing new left room is = record {
  sequence_room = left.sequence_room;
  unsequence_room = omega (arith, left.unsequence_room);
  outgoing_room = omega (arith, left.outgoing_room, room.1, is.len, is.capacity);
}

module _ {F S R P : Type 0} (store_of : F → Store) where
  appends : (space : Space) (entry : FileEntry) (old new : Inside F S R P)
      → AppendsTo space entry old.sequence new.sequence old.unsequence new.unsequence
      → Appends space entry (view_of store_of old) (view_of store_of new)
  appends Sequence entry old new is = (is.0.items, is.1.items)
  appends Unsequence entry old new is = (is.0.items, is.1.items)

  pub enlisted : (space : Space) (entry : FileEntry) (file : KeptFile) (old new : Inside F S R P)
      → AreSound store_of old
      → IsOpen entry.number.0 (view_of store_of old) → HasRoom space old.spare
      → place_of_number entry.number.0 new.tokens.entries ≡ Some (Some file)
      → OthersStay entry.number.0 old.tokens.entries new.tokens.entries
      → AppendsTo space entry old.sequence new.sequence old.unsequence new.unsequence
      → new.outgoing ≡ old.outgoing → new.spare ≡ less_room space old.spare
      → new.least ≡ Some (lesser_born old.least entry.born.0)
      → store_of new.store.value ≡ store_of old.store.value → file.name.store ≡ store_of old.store.value
      → AreSound store_of new
  enlisted space entry file old new sound empty room here others is out spare least same_store in_store =
      let is_view = appends space entry old new is in
      let same = ap (λ v. v.items) out in
      let left = room_appended space entry old.spare old.sequence new.sequence old.unsequence new.unsequence
      old.outgoing
      sound.room room is in
      let out_left =
      subst (λ v. HasRoomLeft (less_room space old.spare) new.sequence new.unsequence v) (sym out) left in
      record {
        kept = kept_more entry.number.0 file (view_of store_of old) (view_of store_of new) sound.kept empty here others
            (appended space entry (view_of store_of old) (view_of store_of new) is_view same);
        of_store = subst (λ store. AreOfStore store new.tokens.entries) (sym same_store)
            (all_with (λ f. f.name.store ≡ store_of old.store.value) entry.number.0 (Some file) old.tokens.entries
            new.tokens.entries (ap file_at here) others in_store sound.of_store);
        room = subst (λ s. HasRoomLeft s new.sequence new.unsequence new.outgoing) (sym spare) out_left;
        least = subst (λ l. IsLeastOf l (listed_borns (view_of store_of new))) (sym least)
            (least_appended space entry old.least (view_of store_of old) (view_of store_of new) is_view sound.least);
      }

  pub sent : (space : Space) (entry : FileEntry) (file : KeptFile) (old new : Inside F S R P) → AreSound store_of old
      → IsOpen entry.number.0 (view_of store_of old) → HasRoom space old.spare
      → place_of_number entry.number.0 new.tokens.entries ≡ Some (Some file)
      → OthersStay entry.number.0 old.tokens.entries new.tokens.entries
      → new.sequence ≡ old.sequence → new.unsequence ≡ old.unsequence
      → HasOneMore (record { number = entry.number; born = entry.born }) old.outgoing new.outgoing
      → new.spare ≡ less_room space old.spare → new.least ≡ old.least
      → store_of new.store.value ≡ store_of old.store.value → file.name.store ≡ store_of old.store.value
      → AreSound store_of new
  sent space entry file old new sound empty room here others sequence unsequence more spare least same_store in_store =
      let s = ap (λ v. v.items) sequence in
      let u = ap (λ v. v.items) unsequence in
      let left = room_sent_out space (record { number = entry.number; born = entry.born }) old.spare old.sequence
      old.unsequence old.outgoing new.outgoing sound.room room more in
      record {
        kept = kept_more entry.number.0 file (view_of store_of old) (view_of store_of new) sound.kept empty here others
            (sent_out (record { number = entry.number; born = entry.born }) (view_of store_of old)
            (view_of store_of new) s u more.items);
        of_store = subst (λ store. AreOfStore store new.tokens.entries) (sym same_store)
            (all_with (λ f. f.name.store ≡ store_of old.store.value) entry.number.0 (Some file) old.tokens.entries
            new.tokens.entries (ap file_at here) others in_store sound.of_store);
        room = subst (λ r. HasRoomLeft r new.sequence new.unsequence new.outgoing) (sym spare)
            (subst (λ v. HasRoomLeft (less_room space old.spare) new.sequence v new.outgoing) (sym unsequence)
            (subst (λ v. HasRoomLeft (less_room space old.spare) v old.unsequence new.outgoing) (sym sequence) left));
        least = subst (λ l. IsLeastOf l (listed_borns (view_of store_of new))) (sym least)
            (subst (λ entries. IsLeastOf old.least (map (λ entry. entry.born.0) entries)) (λ i. sym s i ++ sym u i)
            sound.least);
      }
