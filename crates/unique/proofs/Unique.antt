-- Each public function's contract leaves one result (Contracts 2): one lemma, cited once for each, in the order of crates.txt.
use mathlib.Core.Path.{◌≡◌, ap, sym, ◌∙◌}
use mathlib.Core.List.{List}
use Prim.Native.Nat.{ℕ}
use seplogic.Ra.Ura.{Ura}
use base.Logic.{SProp, ent, sep, via, fst∗}
use prog.Memory.{Memory}
use prog.Routine.{Routine}
use types.Logic.{Logic}
use contract.Monad.{Fun, fact, fact_i, fact_use}
use Rattle.numbers.specs.Groups.{Put}
use Rattle.model.specs.Record.{Written}
use Rattle.model.specs.Drain.{Drain}
use Rattle.model.specs.declared.System.{System}
use Rattle.model.specs.declared.After.{After}
use Rattle.calls.specs.Calls.{WriteBy, DrainBy}
use Rattle.calls.specs.declared.values.Stepped.{Stepped}
use Rattle.numbers.specs.contracts.read_number as read_number
use Rattle.numbers.specs.contracts.number_length as number_length
use Rattle.numbers.specs.contracts.fits as fits
use Rattle.numbers.specs.contracts.write_number as write_number
use Rattle.model.specs.contracts.Sizes.none as sizes_none
use Rattle.model.specs.contracts.Sizes.fit as sizes_fit
use Rattle.model.specs.contracts.Message.none as message_none
use Rattle.model.specs.contracts.Entry.none as entry_none
use Rattle.model.specs.contracts.Waiting.none as waiting_none
use Rattle.model.specs.contracts.Place.none as place_none
use Rattle.model.specs.contracts.System.fresh as system_fresh
use Rattle.codes.specs.contracts.kinds.move_of as move_of
use Rattle.codes.specs.contracts.kinds.move_with_field as move_with_field
use Rattle.codes.specs.contracts.kinds.instruction_of as instruction_of
use Rattle.codes.specs.contracts.kinds.step_of as step_of
use Rattle.codes.specs.contracts.refusals.number as number
use Rattle.codes.specs.contracts.refusals.place as place
use Rattle.codes.specs.contracts.refusals.given_of as given_of
use Rattle.codes.specs.contracts.refusals.is_done as is_done
use Rattle.codes.specs.contracts.rows.numbers_of as numbers_of
use Rattle.codes.specs.contracts.rows.Row.as_slice as as_slice
use Rattle.codes.specs.contracts.rows.Row.padded as padded
use Rattle.codes.specs.contracts.sizes.sizes_of as sizes_of
use Rattle.codes.specs.contracts.sizes.sizes_row as sizes_row
use Rattle.record.specs.contracts.read_sizes as read_sizes
use Rattle.record.specs.contracts.read_step as read_step
use Rattle.record.specs.contracts.write_sizes as write_sizes
use Rattle.record.specs.contracts.write_step as write_step
use Rattle.record.specs.contracts.whole.write_record as write_record
use Rattle.state.specs.contracts.pends.entry_put as entry_put
use Rattle.state.specs.contracts.pends.entry_for as entry_for
use Rattle.state.specs.contracts.pends.entry_replaced as entry_replaced
use Rattle.state.specs.contracts.pends.entry_removed as entry_removed
use Rattle.state.specs.contracts.pends.no_tag as no_tag
use Rattle.state.specs.contracts.pends.no_line as no_line
use Rattle.state.specs.contracts.queues.site_put as site_put
use Rattle.state.specs.contracts.queues.site_rest as site_rest
use Rattle.state.specs.contracts.queues.net_put as net_put
use Rattle.state.specs.contracts.queues.net_rest as net_rest
use Rattle.state.specs.contracts.sets.set_number as set_number
use Rattle.state.specs.contracts.sets.seat as seat
use Rattle.state.specs.contracts.sets.holds as holds
use Rattle.state.specs.contracts.sets.displaced as displaced
use Rattle.state.specs.contracts.sets.placed as placed
use Rattle.state.specs.contracts.sets.without as without
use Rattle.state.specs.contracts.sets.anew as anew
use Rattle.state.specs.contracts.sets.all_clean as all_clean
use Rattle.state.specs.contracts.sets.written as written
use Rattle.state.specs.contracts.stalls.stall_put as stall_put
use Rattle.state.specs.contracts.stalls.stall_rest as stall_rest
use Rattle.state.specs.contracts.stalls.no_tag as stalls_no_tag
use Rattle.rules.specs.contracts.decision.decide as decide
use Rattle.rules.specs.contracts.issue.take_apart as take_apart
use Rattle.rules.specs.contracts.issue.address_fits as address_fits
use Rattle.rules.specs.contracts.issue.tag_free as tag_free
use Rattle.rules.specs.contracts.issue.may_pass as may_pass
use Rattle.rules.specs.contracts.memory.line_after as line_after
use Rattle.rules.specs.contracts.memory.reply_to as reply_to
use Rattle.sound.specs.contracts.is_sound as is_sound
use Rattle.steps.specs.contracts.step_sound as step_sound
use Rattle.steps.specs.contracts.step as step
use Rattle.steps.specs.contracts.step_on as step_on
use Rattle.drain.specs.contracts.drain as drain
use Rattle.calls.specs.contracts.reads.read_sizes_call as read_sizes_call
use Rattle.calls.specs.contracts.reads.read_step_call as read_step_call
use Rattle.calls.specs.contracts.values.sound_call as sound_call
use Rattle.calls.specs.contracts.values.fresh_call as fresh_call
use Rattle.calls.specs.contracts.values.step_call as step_call
use Rattle.calls.specs.contracts.values.drain_call as drain_call
use Rattle.calls.specs.contracts.writes.write_sizes_call as write_sizes_call
use Rattle.calls.specs.contracts.writes.write_step_call as write_step_call
use Rattle.calls.specs.contracts.writes.write_record_call as write_record_call
use Rattle.lent.specs.contracts.mwb_sound as mwb_sound
use Rattle.lent.specs.contracts.mwb_fresh as mwb_fresh
use Rattle.lent.specs.contracts.mwb_step as mwb_step
use Rattle.lent.specs.contracts.mwb_drain as mwb_drain
use Rattle.lent.specs.contracts.mwb_read_sizes as mwb_read_sizes
use Rattle.lent.specs.contracts.mwb_read_step as mwb_read_step
use Rattle.lent.specs.contracts.mwb_write_sizes as mwb_write_sizes
use Rattle.lent.specs.contracts.mwb_write_step as mwb_write_step
use Rattle.lent.specs.contracts.mwb_write_record as mwb_write_record
use Rattle.words.specs.contracts.put_decimal as put_decimal
use Rattle.words.specs.contracts.put_text as put_text
use Rattle.words.specs.contracts.put_name as put_name
use Rattle.listing.specs.contracts.put_sizes as put_sizes
use Rattle.listing.specs.contracts.put_step as put_step
use Rattle.listing.specs.contracts.put_left as put_left
use Rattle.listing.specs.contracts.put_record as put_record
use Rattle.left.specs.contracts.outstanding_left as outstanding_left
use Rattle.left.specs.contracts.messages_left as messages_left
use Rattle.unique.specs.Only.{Only, OnlySeen, nothing}

abbrev same : {X : Type 0} → X → X
same x = x

module _ {M : Type 1} {𝓤 : Ura M} (𝓛 : Logic 𝓤) (mem : Memory → SProp 𝓤) (run : Routine → Fun 𝓤) where
  -- What is equal to one definition is equal, and so is what is read off it.
  abbrev only : {Given Result Left : Type 0} (result : Given → Result) (left : Given → Left) {x y d : Given} {known : SProp 𝓤} →
      ent 𝓤 known (fact 𝓤 (x ≡ d)) →
      ent 𝓤 known (fact 𝓤 (y ≡ d)) →
      ent 𝓤 known (fact 𝓤 ((result x ≡ result y) × (left x ≡ left y)))
  only result left {x} {y} {d} {known} p q =
      fact_use 𝓤 (x ≡ d) p (λ xd. fact_use 𝓤 (y ≡ d) q (λ yd. fact_i 𝓤 ((result x ≡ result y) × (left x ≡ left y)) known (ap result (xd ∙ sym yd), ap left (xd ∙ sym yd))))

  -- the same beside a second clause, which says nothing of the result
  abbrev only_first : {Given Result Left : Type 0} (result : Given → Result) (left : Given → Left) {x y d : Given} {also : Type 0} {known : SProp 𝓤} →
      ent 𝓤 known (sep 𝓤 (fact 𝓤 (x ≡ d)) (fact 𝓤 also)) →
      ent 𝓤 known (sep 𝓤 (fact 𝓤 (y ≡ d)) (fact 𝓤 also)) →
      ent 𝓤 known (fact 𝓤 ((result x ≡ result y) × (left x ≡ left y)))
  only_first result left {x} {y} {d} {also} p q =
      only result left (via 𝓤 _ p (fst∗ 𝓤 (fact 𝓤 (x ≡ d)) (fact 𝓤 also))) (via 𝓤 _ q (fst∗ 𝓤 (fact 𝓤 (y ≡ d)) (fact 𝓤 also)))

  -- numbers
  read_number_only : Only read_number.ended (read_number.clauses 𝓛 mem run) (λ κs. nothing)
  read_number_only κs a g r r' e e' known = only same nothing

  number_length_only : Only number_length.ended (number_length.clauses 𝓛 mem run) (λ κs. nothing)
  number_length_only κs a g r r' e e' known = only same nothing

  fits_only : Only fits.ended (fits.clauses 𝓛 mem run) (λ κs. nothing)
  fits_only κs a g r r' e e' known = only same nothing

  write_number_only : Only write_number.ended (write_number.clauses 𝓛 mem run) (λ κs e. e.0.now)
  write_number_only κs a g r r' e e' known = only (λ (x : Put). x.past) (λ x. x.buffer)

  -- model
  sizes_none_only : Only sizes_none.ended (sizes_none.clauses 𝓛 mem run) (λ κs. nothing)
  sizes_none_only κs a g r r' e e' known = only same nothing

  sizes_fit_only : Only sizes_fit.ended (sizes_fit.clauses 𝓛 mem run) (λ κs. nothing)
  sizes_fit_only κs a g r r' e e' known = only same nothing

  message_none_only : Only message_none.ended (message_none.clauses 𝓛 mem run) (λ κs. nothing)
  message_none_only κs a g r r' e e' known = only same nothing

  entry_none_only : Only entry_none.ended (entry_none.clauses 𝓛 mem run) (λ κs. nothing)
  entry_none_only κs a g r r' e e' known = only same nothing

  waiting_none_only : Only waiting_none.ended (waiting_none.clauses 𝓛 mem run) (λ κs. nothing)
  waiting_none_only κs a g r r' e e' known = only same nothing

  place_none_only : Only place_none.ended (place_none.clauses 𝓛 mem run) (λ κs. nothing)
  place_none_only κs a g r r' e e' known = only same nothing

  system_fresh_only : Only system_fresh.ended (system_fresh.clauses 𝓛 mem run) (λ κs. nothing)
  system_fresh_only κs a g r r' e e' known = only same nothing

  -- codes
  move_of_only : Only move_of.ended (move_of.clauses 𝓛 mem run) (λ κs. nothing)
  move_of_only κs a g r r' e e' known = only same nothing

  move_with_field_only : Only move_with_field.ended (move_with_field.clauses 𝓛 mem run) (λ κs. nothing)
  move_with_field_only κs a g r r' e e' known = only same nothing

  instruction_of_only : Only instruction_of.ended (instruction_of.clauses 𝓛 mem run) (λ κs. nothing)
  instruction_of_only κs a g r r' e e' known = only same nothing

  step_of_only : Only step_of.ended (step_of.clauses 𝓛 mem run) (λ κs. nothing)
  step_of_only κs a g r r' e e' known = only same nothing

  number_only : Only number.ended (number.clauses 𝓛 mem run) (λ κs. nothing)
  number_only κs a g r r' e e' known = only same nothing

  place_only : Only place.ended (place.clauses 𝓛 mem run) (λ κs. nothing)
  place_only κs a g r r' e e' known = only same nothing

  given_of_only : Only given_of.ended (given_of.clauses 𝓛 mem run) (λ κs. nothing)
  given_of_only κs a g r r' e e' known = only same nothing

  is_done_only : Only is_done.ended (is_done.clauses 𝓛 mem run) (λ κs. nothing)
  is_done_only κs a g r r' e e' known = only same nothing

  numbers_of_only : Only numbers_of.ended (numbers_of.clauses 𝓛 mem run) (λ κs. nothing)
  numbers_of_only κs a g r r' e e' known = only same nothing

  as_slice_only : OnlySeen as_slice.ended (as_slice.clauses 𝓛 mem run) (λ κs r. r.now) (λ κs. nothing)
  as_slice_only κs a g r r' e e' known = only_first same nothing

  padded_only : Only padded.ended (padded.clauses 𝓛 mem run) (λ κs. nothing)
  padded_only κs a g r r' e e' known = only same nothing

  sizes_of_only : Only sizes_of.ended (sizes_of.clauses 𝓛 mem run) (λ κs. nothing)
  sizes_of_only κs a g r r' e e' known = only same nothing

  sizes_row_only : Only sizes_row.ended (sizes_row.clauses 𝓛 mem run) (λ κs. nothing)
  sizes_row_only κs a g r r' e e' known = only same nothing

  -- record
  read_sizes_only : Only read_sizes.ended (read_sizes.clauses 𝓛 mem run) (λ κs. nothing)
  read_sizes_only κs a g r r' e e' known = only same nothing

  read_step_only : Only read_step.ended (read_step.clauses 𝓛 mem run) (λ κs. nothing)
  read_step_only κs a g r r' e e' known = only same nothing

  write_sizes_only : Only write_sizes.ended (write_sizes.clauses 𝓛 mem run) (λ κs e. e.0.now)
  write_sizes_only κs a g r r' e e' known = only (λ (x : Written). x.wrote) (λ x. x.buffer)

  write_step_only : Only write_step.ended (write_step.clauses 𝓛 mem run) (λ κs e. e.0.now)
  write_step_only κs a g r r' e e' known = only (λ (x : Written). x.wrote) (λ x. x.buffer)

  write_record_only : Only write_record.ended (write_record.clauses 𝓛 mem run) (λ κs e. e.0.now)
  write_record_only κs a g r r' e e' known = only (λ (x : Written). x.wrote) (λ x. x.buffer)

  -- state
  entry_put_only : Only entry_put.ended (entry_put.clauses 𝓛 mem run) (λ κs e. e.0.now)
  entry_put_only κs a g r r' e e' known = only nothing same

  entry_for_only : Only entry_for.ended (entry_for.clauses 𝓛 mem run) (λ κs. nothing)
  entry_for_only κs a g r r' e e' known = only same nothing

  entry_replaced_only : Only entry_replaced.ended (entry_replaced.clauses 𝓛 mem run) (λ κs e. e.0.now)
  entry_replaced_only κs a g r r' e e' known = only nothing same

  entry_removed_only : Only entry_removed.ended (entry_removed.clauses 𝓛 mem run) (λ κs e. e.0.now)
  entry_removed_only κs a g r r' e e' known = only nothing same

  no_tag_only : Only no_tag.ended (no_tag.clauses 𝓛 mem run) (λ κs. nothing)
  no_tag_only κs a g r r' e e' known = only same nothing

  no_line_only : Only no_line.ended (no_line.clauses 𝓛 mem run) (λ κs. nothing)
  no_line_only κs a g r r' e e' known = only same nothing

  site_put_only : Only site_put.ended (site_put.clauses 𝓛 mem run) (λ κs e. e.0.now)
  site_put_only κs a g r r' e e' known = only nothing same

  site_rest_only : Only site_rest.ended (site_rest.clauses 𝓛 mem run) (λ κs e. e.0.now)
  site_rest_only κs a g r r' e e' known = only nothing same

  net_put_only : Only net_put.ended (net_put.clauses 𝓛 mem run) (λ κs e. e.0.now)
  net_put_only κs a g r r' e e' known = only nothing same

  net_rest_only : Only net_rest.ended (net_rest.clauses 𝓛 mem run) (λ κs e. e.0.now)
  net_rest_only κs a g r r' e e' known = only nothing same

  set_number_only : Only set_number.ended (set_number.clauses 𝓛 mem run) (λ κs. nothing)
  set_number_only κs a g r r' e e' known = only same nothing

  seat_only : Only seat.ended (seat.clauses 𝓛 mem run) (λ κs. nothing)
  seat_only κs a g r r' e e' known = only same nothing

  holds_only : Only holds.ended (holds.clauses 𝓛 mem run) (λ κs. nothing)
  holds_only κs a g r r' e e' known = only same nothing

  displaced_only : Only displaced.ended (displaced.clauses 𝓛 mem run) (λ κs. nothing)
  displaced_only κs a g r r' e e' known = only same nothing

  placed_only : Only placed.ended (placed.clauses 𝓛 mem run) (λ κs. nothing)
  placed_only κs a g r r' e e' known = only same nothing

  without_only : Only without.ended (without.clauses 𝓛 mem run) (λ κs. nothing)
  without_only κs a g r r' e e' known = only same nothing

  anew_only : Only anew.ended (anew.clauses 𝓛 mem run) (λ κs. nothing)
  anew_only κs a g r r' e e' known = only same nothing

  all_clean_only : Only all_clean.ended (all_clean.clauses 𝓛 mem run) (λ κs. nothing)
  all_clean_only κs a g r r' e e' known = only same nothing

  written_only : Only written.ended (written.clauses 𝓛 mem run) (λ κs. nothing)
  written_only κs a g r r' e e' known = only same nothing

  stall_put_only : Only stall_put.ended (stall_put.clauses 𝓛 mem run) (λ κs e. e.0.now)
  stall_put_only κs a g r r' e e' known = only nothing same

  stall_rest_only : Only stall_rest.ended (stall_rest.clauses 𝓛 mem run) (λ κs e. e.0.now)
  stall_rest_only κs a g r r' e e' known = only nothing same

  stalls_no_tag_only : Only stalls_no_tag.ended (stalls_no_tag.clauses 𝓛 mem run) (λ κs. nothing)
  stalls_no_tag_only κs a g r r' e e' known = only same nothing

  -- rules
  decide_only : Only decide.ended (decide.clauses 𝓛 mem run) (λ κs. nothing)
  decide_only κs a g r r' e e' known = only same nothing

  take_apart_only : Only take_apart.ended (take_apart.clauses 𝓛 mem run) (λ κs. nothing)
  take_apart_only κs a g r r' e e' known = only same nothing

  address_fits_only : Only address_fits.ended (address_fits.clauses 𝓛 mem run) (λ κs. nothing)
  address_fits_only κs a g r r' e e' known = only same nothing

  tag_free_only : Only tag_free.ended (tag_free.clauses 𝓛 mem run) (λ κs. nothing)
  tag_free_only κs a g r r' e e' known = only same nothing

  may_pass_only : Only may_pass.ended (may_pass.clauses 𝓛 mem run) (λ κs. nothing)
  may_pass_only κs a g r r' e e' known = only same nothing

  line_after_only : Only line_after.ended (line_after.clauses 𝓛 mem run) (λ κs. nothing)
  line_after_only κs a g r r' e e' known = only same nothing

  reply_to_only : Only reply_to.ended (reply_to.clauses 𝓛 mem run) (λ κs. nothing)
  reply_to_only κs a g r r' e e' known = only same nothing

  -- sound
  is_sound_only : Only is_sound.ended (is_sound.clauses 𝓛 mem run) (λ κs. nothing)
  is_sound_only κs a g r r' e e' known = only same nothing

  -- steps
  step_sound_only : Only step_sound.ended (step_sound.clauses 𝓛 mem run) (λ κs e. e.0.now)
  step_sound_only κs a g r r' e e' known = only (λ (x : After). x.outcome) (λ x. x.system)

  step_on_only : Only step_on.ended (step_on.clauses 𝓛 mem run) (λ κs e. e.0.now)
  step_on_only κs a g r r' e e' known = only (λ (x : After). x.outcome) (λ x. x.system)

  step_only : Only step.ended (step.clauses 𝓛 mem run) (λ κs. nothing)
  step_only κs a g r r' e e' known = only same nothing

  -- drain
  drain_only : Only drain.ended (drain.clauses 𝓛 mem run) (λ κs e. e.1.1.0.now)
  drain_only κs a g r r' e e' known = only (λ (x : Drain). x.result) (λ x. x.buffer)

  -- calls
  read_sizes_call_only : Only read_sizes_call.ended (read_sizes_call.clauses 𝓛 mem run) (λ κs. nothing)
  read_sizes_call_only κs a g r r' e e' known = only same nothing

  read_step_call_only : Only read_step_call.ended (read_step_call.clauses 𝓛 mem run) (λ κs. nothing)
  read_step_call_only κs a g r r' e e' known = only same nothing

  sound_call_only : Only sound_call.ended (sound_call.clauses 𝓛 mem run) (λ κs. nothing)
  sound_call_only κs a g r r' e e' known = only same nothing

  fresh_call_only : Only fresh_call.ended (fresh_call.clauses 𝓛 mem run) (λ κs. nothing)
  fresh_call_only κs a g r r' e e' known = only same nothing

  step_call_only : Only step_call.ended (step_call.clauses 𝓛 mem run) (λ κs. nothing)
  step_call_only κs a g r r' e e' known = only same nothing

  drain_call_only : Only drain_call.ended (drain_call.clauses 𝓛 mem run) (λ κs e. e.1.1.0.now)
  drain_call_only κs a g r r' e e' known = only (λ (x : DrainBy). record { given = x.given; system = x.system }) (λ x. x.buffer)

  write_sizes_call_only : Only write_sizes_call.ended (write_sizes_call.clauses 𝓛 mem run) (λ κs e. e.0.now)
  write_sizes_call_only κs a g r r' e e' known = only (λ (x : WriteBy). x.given) (λ x. x.buffer)

  write_step_call_only : Only write_step_call.ended (write_step_call.clauses 𝓛 mem run) (λ κs e. e.0.now)
  write_step_call_only κs a g r r' e e' known = only (λ (x : WriteBy). x.given) (λ x. x.buffer)

  write_record_call_only : Only write_record_call.ended (write_record_call.clauses 𝓛 mem run) (λ κs e. e.0.now)
  write_record_call_only κs a g r r' e e' known = only (λ (x : WriteBy). x.given) (λ x. x.buffer)

  -- lent
  mwb_sound_only : Only mwb_sound.ended (mwb_sound.clauses 𝓛 mem run) (λ κs. nothing)
  mwb_sound_only κs a g r r' e e' known = only same nothing

  mwb_fresh_only : Only mwb_fresh.ended (mwb_fresh.clauses 𝓛 mem run) (λ κs e. e.0.now)
  mwb_fresh_only κs a g r r' e e' known = only (λ (x : Stepped). x.given) (λ x. x.system)

  mwb_step_only : Only mwb_step.ended (mwb_step.clauses 𝓛 mem run) (λ κs e. e.0.now)
  mwb_step_only κs a g r r' e e' known = only (λ (x : Stepped). x.given) (λ x. x.system)

  mwb_drain_only : Only mwb_drain.ended {Left = System × List ℕ} (mwb_drain.clauses 𝓛 mem run) (λ κs e. (e.0.now, e.1.1.0.now))
  mwb_drain_only κs a g r r' e e' known = only (λ (x : DrainBy). x.given) (λ x. (x.system, x.buffer))

  mwb_read_sizes_only : Only mwb_read_sizes.ended (mwb_read_sizes.clauses 𝓛 mem run) (λ κs. nothing)
  mwb_read_sizes_only κs a g r r' e e' known = only same nothing

  mwb_read_step_only : Only mwb_read_step.ended (mwb_read_step.clauses 𝓛 mem run) (λ κs. nothing)
  mwb_read_step_only κs a g r r' e e' known = only same nothing

  mwb_write_sizes_only : Only mwb_write_sizes.ended (mwb_write_sizes.clauses 𝓛 mem run) (λ κs e. e.0.now)
  mwb_write_sizes_only κs a g r r' e e' known = only (λ (x : WriteBy). x.given) (λ x. x.buffer)

  mwb_write_step_only : Only mwb_write_step.ended (mwb_write_step.clauses 𝓛 mem run) (λ κs e. e.0.now)
  mwb_write_step_only κs a g r r' e e' known = only (λ (x : WriteBy). x.given) (λ x. x.buffer)

  mwb_write_record_only : Only mwb_write_record.ended (mwb_write_record.clauses 𝓛 mem run) (λ κs e. e.0.now)
  mwb_write_record_only κs a g r r' e e' known = only (λ (x : WriteBy). x.given) (λ x. x.buffer)

  -- words
  put_decimal_only : Only put_decimal.ended (put_decimal.clauses 𝓛 mem run) (λ κs e. e.0.now)
  put_decimal_only κs a g r r' e e' known = only (λ (x : Put). x.past) (λ x. x.buffer)

  put_text_only : Only put_text.ended (put_text.clauses 𝓛 mem run) (λ κs e. e.0.now)
  put_text_only κs a g r r' e e' known = only (λ (x : Put). x.past) (λ x. x.buffer)

  put_name_only : Only put_name.ended (put_name.clauses 𝓛 mem run) (λ κs e. e.0.now)
  put_name_only κs a g r r' e e' known = only (λ (x : Put). x.past) (λ x. x.buffer)

  -- listing
  put_sizes_only : Only put_sizes.ended (put_sizes.clauses 𝓛 mem run) (λ κs e. e.0.now)
  put_sizes_only κs a g r r' e e' known = only_first (λ (x : Written). x.wrote) (λ x. x.buffer)

  put_step_only : Only put_step.ended (put_step.clauses 𝓛 mem run) (λ κs e. e.0.now)
  put_step_only κs a g r r' e e' known = only_first (λ (x : Written). x.wrote) (λ x. x.buffer)

  put_left_only : Only put_left.ended (put_left.clauses 𝓛 mem run) (λ κs e. e.0.now)
  put_left_only κs a g r r' e e' known = only_first (λ (x : Written). x.wrote) (λ x. x.buffer)

  put_record_only : Only put_record.ended (put_record.clauses 𝓛 mem run) (λ κs e. e.0.now)
  put_record_only κs a g r r' e e' known = only_first (λ (x : Written). x.wrote) (λ x. x.buffer)

  -- left
  outstanding_left_only : Only outstanding_left.ended (outstanding_left.clauses 𝓛 mem run) (λ κs. nothing)
  outstanding_left_only κs a g r r' e e' known = only same nothing

  messages_left_only : Only messages_left.ended (messages_left.clauses 𝓛 mem run) (λ κs. nothing)
  messages_left_only κs a g r r' e e' known = only same nothing
