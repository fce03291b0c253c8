use Rattle.abt_source.proofs.Output.{write-cause, write-later, write-quiet, write-takes}
use Rattle.abt_source.proofs.real_sink.RealSinkSink.TheImpl.Goals as goal

pub write-tells : goal.write-tells
write-tells g c = record {
  least = c.ensures.least;
  bound = c.ensures.bound;
  takes = write-takes c.result c.args.self.now c.new.self.now c.args.piece.now c.ensures.ok c.ensures.failed;
  later = write-later c.result c.args.self.now c.new.self.now c.args.piece.now c.ensures.ok c.ensures.failed;
  cause = write-cause c.result c.args.self.now c.new.self.now c.ensures.failed;
  quiet = write-quiet c.result c.args.self.now c.new.self.now c.args.piece.now c.ensures.ok;
}
