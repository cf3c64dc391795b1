use Rattle.std.proofs.Common.{sym, ◌∙◌}
use Rattle.lists.proofs.Tests.{T_true}
use Rattle.model.specs.Limits.{in_limits}
use Rattle.promises.proofs.Readers.{sizes-read}
use Rattle.replay.proofs.Lists.{is_put, stands, within, first_whole, refused_whole}
use Rattle.replay.proofs.list_sizes.Goals as goal

pub unwrap-requires : goal.unwrap-requires
unwrap-requires c = is_put _ _ _ _ _ c.put_sizes.ensures.buf_after c.put_sizes.ensures.short c.requires

pub first-requires : goal.first-requires
first-requires c = T_true (in_limits c.in-Ok.z) (sizes-read c.args.bytes.now {past = c.in-Ok.past} (sym c.read_sizes.ensures ∙ c.in-Ok.is)).limits

pub unwrap-requires-in-Err : goal.unwrap-requires-in-Err
unwrap-requires-in-Err c = is_put _ _ _ _ _ c.put_record.ensures.buf_after c.put_record.ensures.short c.requires

pub returns-in-Ok : goal.returns-in-Ok
returns-in-Ok c =
    record {
      whole =
          rw (stands _ _ _ _ _ c.put_sizes.ensures.buf_after _ c.unwrap.ensures)
          (first_whole _ _ _ c.first.result (sym c.read_sizes.ensures ∙ c.in-Ok.is) c.first.ensures.system c.first.ensures.at c.first.ensures.count);
      within = within _ _ _ _ _ c.put_sizes.ensures.buf_after _ c.unwrap.ensures;
    }

pub returns-in-Err : goal.returns-in-Err
returns-in-Err c =
    record {
      whole =
          rw (stands _ _ _ _ _ c.put_record.ensures.buf_after _ c.unwrap-in-Err.ensures)
          (refused_whole _ _ (sym c.read_sizes.ensures ∙ c.in-Err.is));
      within = within _ _ _ _ _ c.put_record.ensures.buf_after _ c.unwrap-in-Err.ensures;
    }
