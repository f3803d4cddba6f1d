-- a source and a sink in memory: what they are, and what each call answers and leaves
use Rattle.std.specs.Prelude.{ℕ, ◌+◌, ◌-◌, List, [], ◌++◌, length, drop, min, nat_eq, nat_lt, Bool, ◌&&◌, ◌||◌, Result, Ok, Err, if◌then◌else◌}
use Rattle.std.specs.List.{list_any}
use Rattle.outside_io.specs.Outside.{last_count}
use Rattle.outside_io.specs.declared.failed.Failed.{Failed}

-- one more on a counter of 64 bits
abbrev pub counted : ℕ → ℕ
counted n = min (n + 1) last_count

-- the call after the first so many is listed; calls are numbered from 1
abbrev pub is_due : ℕ → List ℕ → Bool
is_due made fails = nat_lt made last_count && list_any (λ call. nat_eq call (made + 1)) fails

-- the bytes left, the most that one read gives, the calls that are to fail, the calls made and the
-- faults
pub record ModelSource : Type 0 where
  pub left : List ℕ
  pub most : ℕ
  pub fails : List ℕ
  pub calls : ℕ
  pub faults : ℕ

abbrev pub new_source : List ℕ → ℕ → List ℕ → ModelSource
new_source bytes most fails =
    record { left = bytes; most = most; fails = fails; calls = 0; faults = 0 }

-- how many bytes a read gives that does not fail
abbrev pub read_count : ModelSource → ℕ → ℕ
read_count source size = min source.most (min size (length source.left))

-- what a read into a slice of this length answers
abbrev pub read_answer : ModelSource → ℕ → Result ℕ Failed
read_answer source size =
    if is_due source.calls source.fails then Err (record {}) else Ok (read_count source size)

-- the source after that read
abbrev pub after_read : ModelSource → ℕ → ModelSource
after_read source size =
    if is_due source.calls source.fails
    then record source { calls = counted source.calls; faults = counted source.faults }
    else record source {
      calls = counted source.calls;
      left = drop (read_count source size) source.left;
    }

-- the bytes written, the room left, the calls that are to fail, the calls made and the faults
pub record ModelSink : Type 0 where
  pub written : List ℕ
  pub room : ℕ
  pub fails : List ℕ
  pub calls : ℕ
  pub faults : ℕ

abbrev pub new_sink : ℕ → List ℕ → ModelSink
new_sink room fails = record { written = []; room = room; fails = fails; calls = 0; faults = 0 }

-- the next write of this piece fails
abbrev pub write_fails : ModelSink → List ℕ → Bool
write_fails sink piece = is_due sink.calls sink.fails || nat_lt sink.room (length piece)

-- what a write of this piece answers
abbrev pub write_answer : ModelSink → List ℕ → Result ℕ Failed
write_answer sink piece = if write_fails sink piece then Err (record {}) else Ok (length piece)

-- the sink after that write
abbrev pub after_write : ModelSink → List ℕ → ModelSink
after_write sink piece =
    if write_fails sink piece
    then record sink { calls = counted sink.calls; faults = counted sink.faults }
    else record sink {
      calls = counted sink.calls;
      written = sink.written ++ piece;
      room = sink.room - length piece;
    }
