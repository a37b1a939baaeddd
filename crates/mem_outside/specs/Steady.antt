-- The place and the files that steady ones stand for.
use Rattle.mem_outside.specs.declared.files.MemFiles.{MemFiles}
use Rattle.mem_outside.specs.declared.place.MemPlace.{MemPlace}
use Rattle.mem_outside.specs.declared.steady.SteadyFiles.{SteadyFiles}
use Rattle.mem_outside.specs.declared.steady.SteadyPlace.{SteadyPlace}

abbrev pub inner_place : SteadyPlace → MemPlace
inner_place steady = steady.place

abbrev pub inner_files : SteadyFiles → MemFiles
inner_files steady = steady.files
