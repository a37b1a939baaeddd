-- What a real source and a real sink tell: what the stream below them tells.
use Rattle.std.specs.Prelude.{ℕ}
use Rattle.fs_outside.specs.declared.streams.StdSource.{StdSource}
use Rattle.fs_outside.specs.declared.streams.StdSink.{StdSink}

-- the stream that it reads
abbrev pub reader_of : {R : Type 0} → StdSource R → R
reader_of s = s.reader

-- how often it has failed
abbrev pub source_faults : {R : Type 0} → StdSource R → ℕ
source_faults s = s.faults

-- the stream that it writes
abbrev pub writer_of : {W : Type 0} → StdSink W → W
writer_of s = s.writer

-- how often it has failed
abbrev pub sink_faults : {W : Type 0} → StdSink W → ℕ
sink_faults s = s.faults
