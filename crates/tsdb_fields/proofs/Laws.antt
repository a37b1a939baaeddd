-- No value's bytes begin those of another value of its type.
use Rattle.std.proofs.Common.{ap}
use Rattle.tsdb_base.specs.declared.value.DataType.{DataType}
use Rattle.tsdb_base.specs.declared.value.Value.TheVariants as value
use Rattle.tsdb_base.specs.Fields.{value_field}
use Rattle.tsdb_base.specs.PlainLaws.{plain_bool-prefix_free, plain_i32-prefix_free, plain_i64-prefix_free, plain_text-prefix_free}
use Rattle.tsdb_base.proofs.PlainLists.{IsPrefixFree}
use Rattle.tsdb_base.specs.Values.{IsValueOf}

pub value_field-prefix_free : (data_type : DataType) → IsPrefixFree value_field (IsValueOf data_type)
value_field-prefix_free t (value.Bool a) (value.Bool b) x y is_a is_b e = let same = plain_bool-prefix_free a b x y tt tt e in (ap value.Bool same.0, same.1)
value_field-prefix_free t (value.I32 a) (value.I32 b) x y is_a is_b e = let same = plain_i32-prefix_free a b x y is_a.fits is_b.fits e in (ap value.I32 same.0, same.1)
value_field-prefix_free t (value.I64 a) (value.I64 b) x y is_a is_b e = let same = plain_i64-prefix_free a b x y is_a.fits is_b.fits e in (ap value.I64 same.0, same.1)
value_field-prefix_free t (value.Text a) (value.Text b) x y is_a is_b e = let same = plain_text-prefix_free a b x y is_a.fits is_b.fits e in (ap value.Text same.0, same.1)
value_field-prefix_free t (value.Bool a) (value.I32 b) x y is_a is_b e = let u = is_a.typed in let v = is_b.typed in absurd cc
value_field-prefix_free t (value.Bool a) (value.I64 b) x y is_a is_b e = let u = is_a.typed in let v = is_b.typed in absurd cc
value_field-prefix_free t (value.Bool a) (value.Text b) x y is_a is_b e = let u = is_a.typed in let v = is_b.typed in absurd cc
value_field-prefix_free t (value.I32 a) (value.Bool b) x y is_a is_b e = let u = is_a.typed in let v = is_b.typed in absurd cc
value_field-prefix_free t (value.I32 a) (value.I64 b) x y is_a is_b e = let u = is_a.typed in let v = is_b.typed in absurd cc
value_field-prefix_free t (value.I32 a) (value.Text b) x y is_a is_b e = let u = is_a.typed in let v = is_b.typed in absurd cc
value_field-prefix_free t (value.I64 a) (value.Bool b) x y is_a is_b e = let u = is_a.typed in let v = is_b.typed in absurd cc
value_field-prefix_free t (value.I64 a) (value.I32 b) x y is_a is_b e = let u = is_a.typed in let v = is_b.typed in absurd cc
value_field-prefix_free t (value.I64 a) (value.Text b) x y is_a is_b e = let u = is_a.typed in let v = is_b.typed in absurd cc
value_field-prefix_free t (value.Text a) (value.Bool b) x y is_a is_b e = let u = is_a.typed in let v = is_b.typed in absurd cc
value_field-prefix_free t (value.Text a) (value.I32 b) x y is_a is_b e = let u = is_a.typed in let v = is_b.typed in absurd cc
value_field-prefix_free t (value.Text a) (value.I64 b) x y is_a is_b e = let u = is_a.typed in let v = is_b.typed in absurd cc
