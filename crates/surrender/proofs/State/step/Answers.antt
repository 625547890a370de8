-- `surrender::State::step` meets its contract. Assumes nothing.
use native.Mathlib.Omega.{arith}
use Rattle.contract.specs.Reading.{terms_in}
use Rattle.surrender.proofs.States.{next_same, next_row, next_layer}
use Rattle.surrender.proofs.State.step.Goals as goal

pub returns-then-self-n : goal.returns-then-self-n
returns-then-self-n c =
    let args = c.args in
    let pre = c.requires in
    let if1 = c.if-self-n in
    λ e same. next_same (terms_in args.c) e args.n args.self same pre.0 if1.true

pub returns-then-self-c : goal.returns-then-self-c
returns-then-self-c c =
    let args = c.args in
    let if2 = c.if-self-c in
    let pre = c.requires in
    let if1 = c.if-self-n in
    λ e same. next_row (terms_in args.c) e args.n args.self same if2.true (omega (arith, pre.1, if1.false))

pub returns : goal.returns
returns c =
    let args = c.args in
    let pre = c.requires in
    let if2 = c.if-self-c in
    let if1 = c.if-self-n in
    λ e same.
    next_layer (terms_in args.c) e args.n args.self same (omega (arith, pre.0, if2.false)) (omega (arith, pre.1, if1.false))
