use Rattle.std.proofs.Common.{◌<◌, ◌^◌, Vec, Global, rules}
use Rattle.std.specs.List.{flat_map}
use Rattle.std.proofs.lemmas.List.{nil_from_length}
use Rattle.std.proofs.lemmas.Result.{err_from_is_err_and}
use Rattle.tsdb_base.specs.Fields.{number16}
use Rattle.tsdb_base.specs.FieldLaws.{number16-prefix_free}
use Rattle.tsdb_base.specs.Plain.{AreValues}
use Rattle.tsdb_fields.proofs.Parts.{parts_of}
use Rattle.tsdb_fields.proofs.Taken.{no_fields}
use Rattle.tsdb_index.specs.declared.index.IndexEntry.{IndexEntry}
use Rattle.tsdb_index.specs.Steps.{IsCountedList}
use Rattle.tsdb_index.specs.Entries.{IsEntry}
use Rattle.tsdb_index.specs.Spelling.{entry_field}
use Rattle.tsdb_index.proofs.Entries.{entry-prefix_free}
use Rattle.tsdb_index.proofs.Fields.{is_counted, more_behind, no_count, no_items, no_mark, whole_fault}
use Rattle.tsdb_index.proofs.reading.entries_in.Goals as goal

pub returns-in_default : goal.returns-in_default
returns-in_default c = no_mark 73 number16 (2 ^ 16) entry_field (IsEntry c.args.version) c.args.bytes.now c.in_default.ensures

pub returns-in_err-count : goal.returns-in_err-count
returns-in_err-count c =
    let p = err_from_is_err_and c.from_residual.result c.from_residual.ensures.1 in
    let fields = c.in-Some.rest.bytes in
    let lacks = whole_fault number16 (λ n. n < 2 ^ 16) (IsCountedList 73 number16 (2 ^ 16) entry_field (IsEntry c.args.version) c.args.bytes.now) c.in-Some.rest (λ n. n) (λ (vs : Vec IndexEntry Global). vs.items) c.in_err-count.field-0.0
    (no_count 73 number16 (2 ^ 16) entry_field (IsEntry c.args.version) c.args.bytes.now fields.now c.in-Some.ensures) (parts_of number16 (λ n. n < 2 ^ 16) c.in-Some.rest (λ v. v) c.in_err-count.field-0.0 c.in_err-count.ensures.exact) in
    rw (p.1, p.2) lacks

pub returns-in_err-entries : goal.returns-in_err-entries
returns-in_err-entries c =
    let p = err_from_is_err_and c.from_residual-in_err-entries.result c.from_residual-in_err-entries.ensures.1 in
    let fields = c.in-Some.rest.bytes in
    let n = c.in_ok-count in
    let lacks = whole_fault (flat_map entry_field) (AreValues (IsEntry c.args.version) n.count) (IsCountedList 73 number16 (2 ^ 16) entry_field (IsEntry c.args.version) c.args.bytes.now) n.rest (λ (vs : Vec IndexEntry Global). vs.items) (λ (vs : Vec IndexEntry Global). vs.items) c.in_err-entries.field-0.0
    (no_items 73 number16 (2 ^ 16) entry_field (IsEntry c.args.version) number16-prefix_free c.args.bytes.now fields.now n.rest.bytes.now n.count c.in-Some.ensures n.ensures.exact.0.bytes n.ensures.exact.1) (no_fields entry_field (IsEntry c.args.version) (entry-prefix_free c.args.version) n.count n.rest (λ (vs : Vec IndexEntry Global). vs.items) c.in_err-entries.field-0.0 c.in_err-entries.ensures.exact) in
    rw (p.1, p.2) lacks

pub returns-then-not-is_empty : goal.returns-then-not-is_empty
returns-then-not-is_empty c =
    let fields = c.in-Some.rest.bytes in
    let n = c.in_ok-count in
    let v = c.in_ok-entries in
    more_behind 73 number16 (2 ^ 16) entry_field (IsEntry c.args.version) number16-prefix_free (entry-prefix_free c.args.version) c.args.bytes.now fields.now n.rest.bytes.now v.rest.bytes.now n.count v.entries.items c.in-Some.ensures n.ensures.exact.0.bytes n.ensures.exact.1 v.ensures.exact.0.bytes v.ensures.exact.1 (λ none. search (rules, none))

pub returns : goal.returns
returns c =
    let fields = c.in-Some.rest.bytes in
    let n = c.in_ok-count in
    let v = c.in_ok-entries in
    is_counted 73 number16 (2 ^ 16) entry_field (IsEntry c.args.version) c.args.bytes.now fields.now n.rest.bytes.now v.rest.bytes.now n.count v.entries.items c.in-Some.ensures n.ensures.exact.0.bytes n.ensures.exact.1 v.ensures.exact.0.bytes v.ensures.exact.1 (nil_from_length v.rest.bytes.now (search rules))
