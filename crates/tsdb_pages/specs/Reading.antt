-- What reading a page answers.
use Rattle.std.specs.Prelude.{◌≡◌, ℕ, List, All, true}
use Rattle.tsdb_base.specs.declared.fault.DecodeFault.{DecodeFault}
use Rattle.tsdb_base.specs.declared.fault.DecodeFault.TheVariants as decode
use Rattle.tsdb_base.specs.declared.point.Point.{Point}
use Rattle.tsdb_base.specs.declared.value.DataType.{DataType}
use Rattle.tsdb_base.specs.declared.value.Encoding.{Encoding}
use Rattle.tsdb_base.specs.Values.{is_suitable}
use Rattle.tsdb_pages.specs.declared.fault.PageFault.{PageFault}
use Rattle.tsdb_pages.specs.declared.fault.PageFault.TheVariants as page
use Rattle.tsdb_pages.specs.Pages.{ArePoints, IsInRange, body}

-- these are points of a page of this type, in an encoding that suits it, and the bytes are its body
pub record IsBody (data_type : DataType) (encoding : Encoding) (bytes : List ℕ) (points : List Point) : Type 0 where
  pub suits : is_suitable data_type encoding ≡ true
  pub points_are : ArePoints data_type points
  pub ranges : All IsInRange points
  pub bytes_are : bytes ≡ body encoding points

-- no page has this body
abbrev pub IsNoBody : DataType → Encoding → List ℕ → Type 0
IsNoBody data_type encoding bytes = (points : List Point) → IsBody data_type encoding bytes points → ⊥

-- the fault of a page whose times or values have this one
abbrev pub as_page_fault : DecodeFault → PageFault
as_page_fault decode.Bad = page.Bad
as_page_fault decode.Memory = page.Memory
