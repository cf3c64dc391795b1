use Rattle.drain.proofs.Onward.{is_written, put_past}
use Rattle.drain.proofs.put_step.Goals as goal

pub unwrap-requires : goal.unwrap-requires
unwrap-requires c =
    let pre = c.requires in
    is_written c.args.x c.args.buf.now c.args.at pre.0 pre.1 c.write_step.ensures

pub returns : goal.returns
returns c =
    let pre = c.requires in
    put_past c.args.x c.args.buf.now c.args.at pre.0 pre.1 c.write_step.ensures c.unwrap.ensures
