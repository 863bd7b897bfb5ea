-- The words of the promise. `seen` and `Shaped` are passed on shut: nothing above this crate can
-- open them.
--   seen t               the tables that the rows t hold
--   Shaped t             the rows t have the shape that their type gives them: well_formed tells it
--   Holds t s            the rows t hold the tables s, and are Shaped
--   put_hart s h x       the tables s with hart h's record x
--   put_own, alter_own   the tables s with hart h's counters put, or altered by a function
--   count_hart s h e     the tables s after an event of code e at hart h
--   completed_of x       the record x after the completion of its pending state; as it is if none
--                        is
--   complete_hart s h    the tables s after the completion of hart h
--   fresh_made p         what making fresh tables answers
--   FreshOr b p t t'     t' holds fresh tables if b, else is t
--   set_of s             the counters that the low eight bits of a word name
--   Fine cs              each of the counters cs is well formed
--   Startable cs s       each of them is, and those of the set s are mapped
--   configure_at         counter i of eight configured
pub use Rattle.store.specs.Seen.{seen, Shaped, Holds, put_hart, put_own, alter_own, count_hart}
pub use Rattle.store.specs.Seen.{fresh_made, FreshOr}
pub use Rattle.store.specs.Settling.{completed_of, complete_hart}
pub use Rattle.store.specs.Sets.{set_of, Fine, Startable, configure_at}
