-- The record after a completion.
--   completed_of x      the record x after the completion of its pending state; as it is if none is
--   complete_hart s h   the tables s after the completion of hart h
use Rattle.std.specs.Prelude.{ℕ}
use Rattle.std.specs.Option.{unwrap_or}
use Rattle.rules.specs.Tables.{Tables, hart_at}
use Rattle.rules.specs.Harts.{done_of}
use Rattle.rules.specs.declared.records.Hart.{Hart}
use Rattle.store.specs.Seen.{put_hart}

unfoldable pub completed_of : Hart → Hart
completed_of x = unwrap_or (done_of x) x

abbrev pub complete_hart : Tables → (h : ℕ) → Tables
complete_hart s h = put_hart s h (completed_of (hart_at s.harts h))
