use Rattle.std.proofs.Common.{◌≡◌, ℕ, ◌<◌, ◌≤◌, ◌++◌, length, arith, rules, sym, ◌∙◌, [], Some}
use Rattle.model.specs.declared.Step.{Step}
use Rattle.model.specs.Record.{read_step}
use Rattle.model.specs.Results.{one, no_more}
use Rattle.promises.proofs.Endings.{step_on}
use Rattle.replay.specs.Going.{last_line, to_list}
use Rattle.replay.proofs.Lists.{is_put, refused, joined, within}
use Rattle.replay.proofs.Onward.{step_listed, last_listed}
use Rattle.replay.proofs.list_on.Goals as goal
use Rattle.replay.proofs.list_on.Goals.{In-Ok-Some, In_default, in_default-via-in-Ok+in_default, in_default-via-in_default}

-- the step was read there
read_there : (c : In-Ok-Some) → read_step c.args.bytes.now c.lines.going.at ≡ one c.in-Ok-Some.x c.in-Ok-Some.next
read_there c =
    let was : c.read_step-got.result ≡ one c.in-Ok-Some.x c.in-Ok-Some.next = search rules in
    sym c.read_step-got.ensures ∙ was

-- it ends behind its start, and within the record
read_on : (c : In-Ok-Some) → (c.lines.going.at < c.in-Ok-Some.next) × (c.in-Ok-Some.next ≤ length c.args.bytes.now)
read_on c = step_on c.args.bytes.now c.lines.going.at c.in-Ok-Some.next c.in-Ok-Some.x (read_there c)

-- no step was read
none_there : (c : In_default) (x : Step) (next : ℕ) → c.read_step-got.result ≡ one x next → ⊥
none_there c x next e = elim c.in_default.branch [
  | in_default-via-in-Ok+in_default w ↦ let ended : c.read_step-got.result ≡ no_more = search rules in cc
  | in_default-via-in_default w ↦ cc
]

-- so the line behind the last step is what was to be listed
last_there : (c : In_default) → to_list c.args.bytes.now (Some c.lines.going) ≡ last_line c.read_step-got.result c.lines.going.system ++ []
last_there c = last_listed c.args.bytes.now c.lines.going c.read_step-got.result (sym c.read_step-got.ensures) (none_there c)

pub take-outcome-requires : goal.take-outcome-requires
take-outcome-requires c = (read_on (goal.at.take-outcome-requires c).In-Ok-Some).0

pub unwrap-length-requires : goal.unwrap-length-requires
unwrap-length-requires c = is_put _ _ _ _ _ c.put_step.ensures.buf_after c.put_step.ensures.short c.if-buf-length.false

pub lines-smaller : goal.lines-smaller
lines-smaller c = omega (arith, read_on (goal.at.lines-smaller c).In-Ok-Some, c.take-outcome.ensures.at)

pub lines-preserved : goal.lines-preserved
lines-preserved c =
    let read = read_there (goal.at.lines-preserved c).In-Ok-Some in
    let on = read_on (goal.at.lines-preserved c).In-Ok-Some in
    let went = c.take-outcome.ensures in
    record {
      all =
          joined _ _ _ _ _ c.put_step.ensures.buf_after _ c.unwrap-length.ensures _ (to_list c.args.bytes.now (Some c.take-outcome.new.self)) _
          (step_listed c.args.bytes.now c.lines.going c.take-outcome.new.self c.in-Ok-Some.x c.in-Ok-Some.next _ read went.after went.at went.count) c.lines.invariant.all;
      within = omega (arith, within _ _ _ _ _ c.put_step.ensures.buf_after _ c.unwrap-length.ensures, c.put_step.auto.buf);
      since = omega (arith, on, went.at, c.lines.invariant.since);
      further = λ h. (omega (arith, on, went.at, c.lines.invariant.since), omega (arith, on, went.at));
    }

pub returns-in-Ok-clause-whole : goal.returns-in-Ok-clause-whole
returns-in-Ok-clause-whole c =
    joined _ _ _ _ _ c.put_last.ensures.buf_after _ c.in-Ok.is _ [] _ (last_there (goal.at.returns-in-Ok-clause-whole c).In_default) c.lines.invariant.all

pub returns-in-Ok-clause-within : goal.returns-in-Ok-clause-within
returns-in-Ok-clause-within c = omega (arith, within _ _ _ _ _ c.put_last.ensures.buf_after _ c.in-Ok.is, c.lines.auto.buf)

pub returns-in-Err-clause-whole : goal.returns-in-Err-clause-whole
returns-in-Err-clause-whole c = rw (refused _ _ _ _ _ c.put_last.ensures.buf_after _ c.in-Err.is).1 c.lines.invariant.all

pub returns-in-Err-clause-further : goal.returns-in-Err-clause-further
returns-in-Err-clause-further c =
    let full = (refused _ _ _ _ _ c.put_last.ensures.buf_after _ c.in-Err.is).0 in
    c.lines.invariant.further (omega (arith, full, c.put_last.ensures.short, c.requires, c.lines.auto.buf))
