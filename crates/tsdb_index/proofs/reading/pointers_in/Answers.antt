use Rattle.std.proofs.Common.{◌<◌, ◌^◌, Vec, Global, rules}
use Rattle.std.specs.List.{flat_map}
use Rattle.std.proofs.lemmas.List.{nil_from_length}
use Rattle.std.proofs.lemmas.Result.{err_from_is_err_and}
use Rattle.tsdb_base.specs.Fields.{number32}
use Rattle.tsdb_base.specs.FieldLaws.{number32-prefix_free}
use Rattle.tsdb_base.specs.Plain.{AreValues}
use Rattle.tsdb_fields.proofs.Parts.{parts_of}
use Rattle.tsdb_fields.proofs.Taken.{no_fields}
use Rattle.tsdb_index.specs.declared.pointer.Pointer.{Pointer}
use Rattle.tsdb_index.specs.Steps.{IsCountedList}
use Rattle.tsdb_index.specs.Parts.{IsPointer, pointer_bytes}
use Rattle.tsdb_index.proofs.Entries.{pointer-prefix_free}
use Rattle.tsdb_index.proofs.Fields.{is_counted, more_behind, no_count, no_items, no_mark, whole_fault}
use Rattle.tsdb_index.proofs.reading.pointers_in.Goals as goal

pub returns-in_default : goal.returns-in_default
returns-in_default c = no_mark 82 number32 (2 ^ 32) pointer_bytes IsPointer c.args.bytes.now c.in_default.ensures

pub returns-in_err-count : goal.returns-in_err-count
returns-in_err-count c =
    let p = err_from_is_err_and c.from_residual.result c.from_residual.ensures.1 in
    let fields = c.in-Some.rest.bytes in
    let lacks = whole_fault number32 (λ n. n < 2 ^ 32) (IsCountedList 82 number32 (2 ^ 32) pointer_bytes IsPointer c.args.bytes.now) c.in-Some.rest (λ n. n) (λ (vs : Vec Pointer Global). vs.items) c.in_err-count.field-0.0
    (no_count 82 number32 (2 ^ 32) pointer_bytes IsPointer c.args.bytes.now fields.now c.in-Some.ensures) (parts_of number32 (λ n. n < 2 ^ 32) c.in-Some.rest (λ v. v) c.in_err-count.field-0.0 c.in_err-count.ensures.exact) in
    rw (p.1, p.2) lacks

pub returns-in_err-pointers : goal.returns-in_err-pointers
returns-in_err-pointers c =
    let p = err_from_is_err_and c.from_residual-in_err-pointers.result c.from_residual-in_err-pointers.ensures.1 in
    let fields = c.in-Some.rest.bytes in
    let n = c.in_ok-count in
    let lacks = whole_fault (flat_map pointer_bytes) (AreValues IsPointer n.count) (IsCountedList 82 number32 (2 ^ 32) pointer_bytes IsPointer c.args.bytes.now) n.rest (λ (vs : Vec Pointer Global). vs.items) (λ (vs : Vec Pointer Global). vs.items) c.in_err-pointers.field-0.0
    (no_items 82 number32 (2 ^ 32) pointer_bytes IsPointer number32-prefix_free c.args.bytes.now fields.now n.rest.bytes.now n.count c.in-Some.ensures n.ensures.exact.0.bytes n.ensures.exact.1) (no_fields pointer_bytes IsPointer pointer-prefix_free n.count n.rest (λ (vs : Vec Pointer Global). vs.items) c.in_err-pointers.field-0.0 c.in_err-pointers.ensures.exact) in
    rw (p.1, p.2) lacks

pub returns-then-not-is_empty : goal.returns-then-not-is_empty
returns-then-not-is_empty c =
    let fields = c.in-Some.rest.bytes in
    let n = c.in_ok-count in
    let v = c.in_ok-pointers in
    more_behind 82 number32 (2 ^ 32) pointer_bytes IsPointer number32-prefix_free pointer-prefix_free c.args.bytes.now fields.now n.rest.bytes.now v.rest.bytes.now n.count v.pointers.items c.in-Some.ensures n.ensures.exact.0.bytes n.ensures.exact.1 v.ensures.exact.0.bytes v.ensures.exact.1 (λ none. search (rules, none))

pub returns : goal.returns
returns c =
    let fields = c.in-Some.rest.bytes in
    let n = c.in_ok-count in
    let v = c.in_ok-pointers in
    is_counted 82 number32 (2 ^ 32) pointer_bytes IsPointer c.args.bytes.now fields.now n.rest.bytes.now v.rest.bytes.now n.count v.pointers.items c.in-Some.ensures n.ensures.exact.0.bytes n.ensures.exact.1 v.ensures.exact.0.bytes v.ensures.exact.1 (nil_from_length v.rest.bytes.now (search rules))
