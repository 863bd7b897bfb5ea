-- `row_well_formed` asks of the words what the rules ask of what they hold.
use Rattle.store.proofs.TestLaws.{row_on, row-off}
use Rattle.std.proofs.Common.{◌≡◌, ◌&&◌, leb, get_or, sym, rules, tests}
use Rattle.store.proofs.wholes.row_well_formed.Goals as goal

pub returns-then-enabled-clause-test : goal.returns-then-enabled-clause-test
returns-then-enabled-clause-test c =
    let w = get_or c.args.r.now 0 0 in
    let e : c.contains.result ≡ (leb 2 w && leb w 15) = search (rules, tests) in
    rw (c.if-enabled.true, e, c.controls.ensures) (sym (row_on c.args.r.now))

pub returns-clause-test : goal.returns-clause-test
returns-clause-test c = rw (c.if-enabled.false, c.cleared.ensures) (sym (row-off c.args.r.now (c.fits-r 3)))
