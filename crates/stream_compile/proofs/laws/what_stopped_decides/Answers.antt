use Rattle.module_stream.proofs.Stopped.{stopped_stays, stopped_decides, stopped_once, stopped_of_verdict}
use Rattle.stream_compile.proofs.laws.what_stopped_decides.Goals as goal

pub returns : goal.returns
returns c = record {
  stays = λ bytes more r p. stopped_stays bytes more r p;
  verdict = λ bytes more r p. stopped_decides bytes more r p;
  one = λ bytes r s p q. stopped_once bytes r s p q;
  told = λ bytes v p. stopped_of_verdict bytes v p;
}
