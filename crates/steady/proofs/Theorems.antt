-- Every promise of `specs/Promises.antt`, proved: a line each, with the file that has the argument.
use Rattle.steady.specs.Promises.{FollowsTheStep, StaysHeld, QuietKeepsTheOutput}
use Rattle.steady.proofs.Held

pub follows_the_step : FollowsTheStep
follows_the_step = Held.follows_the_step

pub stays_held : StaysHeld
stays_held = Held.stays_held

pub quiet_keeps_the_output : QuietKeepsTheOutput
quiet_keeps_the_output = Held.quiet_keeps_the_output
