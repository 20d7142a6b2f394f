use Rattle.std.proofs.Common.{refl}
use Rattle.sessions.proofs.Feeds.{reply_is}
use Rattle.sessions.proofs.feeding.serve_job.Goals as goal

pub returns : goal.returns
returns g c = record {
  served = c.in_default.ensures.served;
  number = refl;
  operator = refl;
  reply = reply_is c.args.session.now c.call.new.self c.args.job.request c.in_default.ensures.served c.entries-entries.result.now c.index-entries-entries.result c.in_ok-reply.reply c.entries-entries.ensures c.index-entries-entries.is c.in_ok-reply.ensures;
}
