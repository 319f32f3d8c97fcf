-- Each call is one more at the end, and what it prints is written out behind the rest.
use Rattle.std.proofs.Common.{[], ◌++◌, take, ◌∙◌}
use Rattle.std.proofs.KnownBytes.{Appends-nil, Appends-trans}
use Rattle.player.specs.Whole.{none}
use Rattle.play.proofs.Calls.{plays_more}
use Rattle.play.proofs.play_events.Goals as goal

pub loop-calls-init : goal.loop-calls-init
loop-calls-init g c = λ full. ([], none, Appends-nil _)

pub loop-calls-preserved : goal.loop-calls-preserved
loop-calls-preserved g c = λ full.
    let (text, played, written) = c.loop-calls.invariant full in
    let r = c.play-progress.result in
    let page = c.play-progress.new.out in (
      text ++ take r.written page,
      plays_more played r _ _ _ c.loop-calls.page page c.play-progress.auto.forward c.play-progress.auto.back
          (c.loop-calls.auto.page ∙ full) c.play-progress.ensures,
      Appends-trans _ _ _ _ _ written c.in_ok-show.ensures,
    )
