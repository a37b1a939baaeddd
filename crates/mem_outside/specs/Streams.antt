-- What the sources and sinks in memory hold.
use Rattle.std.specs.Prelude.{ℕ, List, drop}
use Rattle.mem_outside.specs.declared.calls.Calls.{Calls}
use Rattle.mem_outside.specs.declared.streams.Unread.{Unread}
use Rattle.mem_outside.specs.declared.streams.MemSource.{MemSource}
use Rattle.mem_outside.specs.declared.streams.MemSink.{MemSink}
use Rattle.mem_outside.specs.declared.streams.SteadySource.{SteadySource}
use Rattle.mem_outside.specs.declared.streams.SteadySink.{SteadySink}

-- the bytes that are left
abbrev pub unread : Unread → List ℕ
unread u = drop u.taken u.bytes.items

-- the bytes that are left
abbrev pub mem_left : MemSource → List ℕ
mem_left s = unread s.unread

-- its calls so far, and those that fail
abbrev pub mem_source_calls : MemSource → Calls
mem_source_calls s = s.calls

-- the bytes that it has taken
abbrev pub mem_held : MemSink → List ℕ
mem_held s = s.bytes.items

-- its calls so far, and those that fail
abbrev pub mem_sink_calls : MemSink → Calls
mem_sink_calls s = s.calls

-- the bytes that are left
abbrev pub steady_left : SteadySource → List ℕ
steady_left s = unread s.unread

-- the bytes that it has taken
abbrev pub steady_held : SteadySink → List ℕ
steady_held s = s.bytes.items
