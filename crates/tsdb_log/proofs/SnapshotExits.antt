-- The part of a snapshot at which reading stops, and what was read of the whole.
use Rattle.std.proofs.Common.{◌≡◌, ℕ, List, [], ◌∷◌, length, Err, refl, sym, subst, arith}
use Rattle.std.specs.List.{flat_map}
use Rattle.tsdb_base.specs.Plain.{AreValues}
use Rattle.std.proofs.lemmas.List.Elements.{All-nil}
use Rattle.tsdb_fields.specs.declared.fault.FieldFault.{FieldFault}
use Rattle.tsdb_fields.specs.declared.rest.Rest.{Rest}
use Rattle.tsdb_fields.specs.Reading.{TakesBytes, Reads}
use Rattle.tsdb_fields.proofs.Taken.{takes_both}
use Rattle.tsdb_log.specs.declared.record.LogRecord.TheVariants.{Snapshot}
use Rattle.tsdb_log.specs.declared.snapshot.PairRecord.{PairRecord}
use Rattle.tsdb_log.specs.declared.snapshot.TableRecord.{TableRecord}
use Rattle.tsdb_log.specs.PartLaws.{none_counted}
use Rattle.tsdb_log.specs.SnapshotLaws.{Numbers, Lists, front_row, IsFrontRow, front_rows, back_row, IsBackRow, frozen_rows, frozen_row, IsFrozenRow, frozen_as, byte_field, IsByte, byte_free, some_frozen_pair, two_tables, AreTwoTables, snapshot_row, IsSnapshotRow, made_snapshot, is_made_snapshot}
use Rattle.tsdb_log.specs.Snapshots.{frozen_fields, pair_fields, snapshot_fields, AreFrozen, IsPairRecord, IsTable}
use Rattle.tsdb_log.specs.Spelling.{joined_fields, fields, IsRecord}
use Rattle.tsdb_log.specs.Rows.{field}
use Rattle.tsdb_log.specs.ListLaws.{copies, values_of_list}
use Rattle.tsdb_log.specs.Steps.{BeginsWithRecord, FailsToRead}
use Rattle.tsdb_log.proofs.Bodies.{snapshot_as}
use Rattle.tsdb_log.proofs.Faults.{behind_field, fails_as, field_fails, first_fails, second_fails, kind_fails, record_fails, takes_record}
use Rattle.tsdb_log.proofs.Parts.{takes_pair}

no_tables : (p : List TableRecord × List TableRecord) × AreTwoTables p
no_tables = (((none_counted IsTable).0, (none_counted IsTable).0), ((none_counted IsTable).1, (none_counted IsTable).1))

no_pairs : (pairs : List PairRecord) × AreFrozen pairs
no_pairs = ([], (omega arith, All-nil IsPairRecord))

pub frozen_count : (old : Rest) (fault : FieldFault) → Reads byte_field IsByte old (λ (v : ℕ). v) (Err fault)
    → FailsToRead frozen_fields AreFrozen old.at old.bytes.now fault
frozen_count old fault reads =
    fails_as frozen_row IsFrozenRow frozen_fields AreFrozen old.at old.bytes.now fault frozen_as
    (first_fails (field byte_field) (flat_map pair_fields) IsByte (AreValues IsPairRecord) old.at old.bytes.now fault
    (λ n few. let list = copies IsPairRecord some_frozen_pair.0 some_frozen_pair.1 n in (list.0, values_of_list IsPairRecord n list.0 list.1))
    (field_fails byte_field IsByte old (λ (v : ℕ). v) fault 0 (omega arith) reads))

pub frozen_pairs : (n : ℕ) (old middle : Rest) (fault : FieldFault) → IsByte n → TakesBytes old (byte_field n) middle
    → FailsToRead (flat_map pair_fields) (AreValues IsPairRecord n) middle.at middle.bytes.now fault → FailsToRead frozen_fields AreFrozen old.at old.bytes.now fault
frozen_pairs n old middle fault few takes fails =
    fails_as frozen_row IsFrozenRow frozen_fields AreFrozen old.at old.bytes.now fault frozen_as
    (behind_field byte_field (flat_map pair_fields) IsByte (AreValues IsPairRecord) byte_free n old middle fault few takes fails)

pub takes_frozen : (n : ℕ) (pairs : List PairRecord) (old middle new : Rest) → IsByte n → TakesBytes old (byte_field n) middle → AreValues IsPairRecord n pairs
    → TakesBytes middle (joined_fields (flat_map pair_fields pairs)) new → TakesBytes old (joined_fields (frozen_fields pairs)) new × AreFrozen pairs
takes_frozen n pairs old middle new few takes are more =
    let count = are.0 in (
      takes_both old middle new (length pairs ∷ []) (joined_fields (flat_map pair_fields pairs))
          (subst (λ (k : ℕ). TakesBytes old (k ∷ []) middle) (sym count) takes) more,
      (omega arith, are.1),
    )

pub snapshot_front : (bytes : List ℕ) (fault : FieldFault) → FailsToRead front_row IsFrontRow 1 bytes fault → FailsToRead fields IsRecord 0 (7 ∷ bytes) fault
snapshot_front bytes fault fails =
    record_fails 7 snapshot_row IsSnapshotRow bytes fault snapshot_as
    (first_fails front_row back_row IsFrontRow (λ _. IsBackRow) 1 bytes fault
    (λ f is. ((no_pairs.0, no_tables.0), (no_pairs.1, no_tables.1))) fails)

pub snapshot_frozen : (front : Numbers × Lists) (rest behind : Rest) (fault : FieldFault) → rest.at ≡ 1 → IsFrontRow front
    → TakesBytes rest (joined_fields (front_row front)) behind → FailsToRead frozen_fields AreFrozen behind.at behind.bytes.now fault
    → FailsToRead fields IsRecord 0 (7 ∷ rest.bytes.now) fault
snapshot_frozen front rest behind fault first is takes fails =
    kind_fails 7 snapshot_row IsSnapshotRow rest fault first snapshot_as
    (second_fails front_row back_row IsFrontRow (λ _. IsBackRow) front_rows front rest behind fault is takes
    (first_fails frozen_fields two_tables AreFrozen (λ _. AreTwoTables) behind.at behind.bytes.now fault (λ pairs are. no_tables) fails))

pub snapshot_tables : (front : Numbers × Lists) (frozen : List PairRecord) (rest middle behind : Rest) (fault : FieldFault) → rest.at ≡ 1
    → IsFrontRow front → TakesBytes rest (joined_fields (front_row front)) middle → AreFrozen frozen → TakesBytes middle (joined_fields (frozen_fields frozen)) behind
    → FailsToRead two_tables AreTwoTables behind.at behind.bytes.now fault → FailsToRead fields IsRecord 0 (7 ∷ rest.bytes.now) fault
snapshot_tables front frozen rest middle behind fault first is takes are takes_frozen fails =
    kind_fails 7 snapshot_row IsSnapshotRow rest fault first snapshot_as
    (second_fails front_row back_row IsFrontRow (λ _. IsBackRow) front_rows front rest middle fault is takes
    (second_fails frozen_fields two_tables AreFrozen (λ _. AreTwoTables) frozen_rows frozen middle behind fault are takes_frozen fails))

pub reads_snapshot : (front : Numbers × Lists) (frozen : List PairRecord) (tables : List TableRecord × List TableRecord) (rest first middle behind : Rest)
    → rest.at ≡ 1 → IsFrontRow front → TakesBytes rest (joined_fields (front_row front)) first → AreFrozen frozen → TakesBytes first (joined_fields (frozen_fields frozen)) middle
    → AreTwoTables tables → TakesBytes middle (joined_fields (two_tables tables)) behind
    → BeginsWithRecord (7 ∷ rest.bytes.now) (Snapshot (made_snapshot (front, (frozen, tables)))) behind
reads_snapshot front frozen tables rest first middle behind start is takes are takes_frozen are_tables takes_tables =
    takes_record 7 (Snapshot (made_snapshot (front, (frozen, tables)))) (joined_fields (snapshot_fields (made_snapshot (front, (frozen, tables))))) rest behind
    (is_made_snapshot (front, (frozen, tables)) (is, (are, are_tables))) refl start
    (takes_pair (front_row front) (back_row (frozen, tables)) rest first behind takes
    (takes_pair (frozen_fields frozen) (two_tables tables) first middle behind takes_frozen takes_tables))
