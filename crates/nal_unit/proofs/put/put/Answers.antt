-- `nal_unit::put::put` meets its contract: one store, or two. Assumes nothing.
use Rattle.std.proofs.Common.{◌≡◌, sym, ap, ◌∙◌, true, false, ◌+◌, ◌≤◌, arith, length, length-set}
use Rattle.nal_unit.specs.Escape.{inserts}
use Rattle.nal_unit.specs.EscapeCode.{counted, esc-hit, esc-plain}
use Rattle.nal_unit.specs.PutCode.{put-hit, put-plain}
use Rattle.nal_unit.proofs.put.put.Goals as goal

hit : (c : goal.Then-wants3) → inserts (counted c.args.out.now c.args.at) c.args.b ≡ true
hit c = sym c.wants3.ensures ∙ c.if-wants3.true

hit_room : (c : goal.Then-wants3) → c.args.at + 2 ≤ length c.args.out.now
hit_room c = omega (arith, c.requires, ap length (esc-hit (counted c.args.out.now c.args.at) c.args.b (hit c)))

plain : (c : goal.Else-wants3) → inserts (counted c.args.out.now c.args.at) c.args.b ≡ false
plain c = sym c.wants3.ensures ∙ c.if-wants3.false

plain_room : (c : goal.Else-wants3) → c.args.at + 1 ≤ length c.args.out.now
plain_room c = omega (arith, c.requires, ap length (esc-plain (counted c.args.out.now c.args.at) c.args.b (plain c)))

pub bounds-out-at : goal.bounds-out-at
bounds-out-at c = omega (arith, hit_room c)

pub bounds-out-at-then-wants3 : goal.bounds-out-at-then-wants3
bounds-out-at-then-wants3 c = simp length-set (omega (arith, hit_room c))

pub returns-then-wants3 : goal.returns-then-wants3
returns-then-wants3 c = put-hit c.args.out.now c.args.at c.args.b (hit c) (hit_room c)

pub bounds-out-at-2 : goal.bounds-out-at-2
bounds-out-at-2 c = omega (arith, plain_room c)

pub returns : goal.returns
returns c = put-plain c.args.out.now c.args.at c.args.b (plain c) (plain_room c)
