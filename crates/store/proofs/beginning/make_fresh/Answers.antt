-- `make_fresh` fills the rows of an accepted platform, whose boot hart is one of them.
use Rattle.rules.specs.Choice.{when◌then◌else◌}
use Rattle.rules.proofs.WellFormed.{platform-agrees, enabled_under}
use Rattle.rules.specs.declared.platform.Platform.{Platform}
use Rattle.rules.specs.Platform.{platform_accepted}
use Rattle.store.proofs.BeginningLaws.{fresh_holds}
use Rattle.std.proofs.Common.{◌≡◌, ◌<◌, true, sym, refl, ap, ◌∙◌, ℕ, [], replicate, arith, ext_get_or}
use lib.ListN.{get_or-replicate}
use Rattle.rules.specs.Names.{STOPPED}
use Rattle.store.specs.Seen.{fresh_row}
use Rattle.store.proofs.beginning.make_fresh.Goals as goal

boot-under : (p : Platform) → platform_accepted p ≡ true → p.boot < 128
boot-under p e = enabled_under p p.boot ((platform-agrees p).0 e).boot

pub returns-then-not-accepted : goal.returns-then-not-accepted
unfolding when◌then◌else◌
returns-then-not-accepted c =
    let e = sym c.accepted.ensures ∙ c.if-not-accepted.true in
    record { answer = rw e refl; rows = rw e refl }

pub offset_bounds-t-p : goal.offset_bounds-t-p
offset_bounds-t-p c = let l = boot-under c.args.p.now (sym c.accepted.ensures ∙ c.if-not-accepted.false) in omega arith

pub bounds-t-p : goal.bounds-t-p
bounds-t-p c = boot-under c.args.p.now (sym c.accepted.ensures ∙ c.if-not-accepted.false)

pub returns : goal.returns
unfolding when◌then◌else◌
returns c =
    let p = c.args.p.now in
    let e = sym c.accepted.ensures ∙ c.if-not-accepted.false in
    let l = boot-under p e in
    let f : c.fill.new.self ≡ replicate 128 (fresh_row STOPPED) =
    c.fill.ensures.after (λ y k. ext_get_or 0 y (fresh_row STOPPED) k.long (λ i l. k.at i 0 0 (rw k.long at l)))
    ∙ ap (λ (n : ℕ). replicate n (fresh_row STOPPED)) c.told-t in
    record {
      answer = rw e refl;
      rows = rw (e, f, get_or-replicate 128 p.boot (fresh_row STOPPED) [] l) (fresh_holds p);
    }
