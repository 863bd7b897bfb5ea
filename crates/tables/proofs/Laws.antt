-- The laws of the promise.
--   only_one, held-once                        rows that are seen alike, or hold the same tables, are the same rows
--   seen-harts, seen-counters, seen-own        how many records, rows of counters and counters are seen
--   hart-put-same, hart-put-other, -back       a hart's record after one is put, of that hart or another; put back
--   own-put-same, own-put-other, -back         a hart's counters after they are put, of that hart or another; put back
--   completed-to                               a completed record is what the rules' step gives
--   match-some, match_none                     what a match says of the counter chosen
pub use Rattle.store.proofs.OnlyLaws.{only_one, held-once}
pub use Rattle.store.proofs.KeepLaws.{seen-harts, seen-counters, seen-own}
pub use Rattle.store.proofs.KeepLaws.{hart-put-same, hart-put-other, hart-put-back}
pub use Rattle.store.proofs.KeepLaws.{own-put-same, own-put-other, own-put-back}
pub use Rattle.store.proofs.SettlingLaws.{completed-to}
pub use Rattle.store.proofs.KeepLaws.{match-some, match_none}
