use Rattle.std.proofs.Common.{◌≡◌, ◌∙◌, ap, refl, subst}
use Rattle.tl_io.specs.Told.{append, GainsPart}
use Rattle.tl_tell.specs.declared.ended.Reason.TheVariants as reason
use Rattle.tl_tell.specs.Promise.{text_of}
use Rattle.tl_tell.proofs.Kept.{kept_done, kept_part, kept_refused, kept_words}
use Rattle.tl_tell.proofs.run.run_kept.Goals as goal

pub returns-in-Ok-write_all-clause-keeps : goal.returns-in-Ok-write_all-clause-keeps
returns-in-Ok-write_all-clause-keeps g c =
    let text : c.as_slice.result.now ≡ text_of c.in-Ok-read_input.script c.in-Ok.settings c.in-Ok-play.played.journal =
    c.as_slice.ensures ∙ c.in-Ok-play.ensures.text in
    kept_done c.args.words.now _ _ c.in-Ok.settings c.in-Ok.ensures.reads c.in-Ok-read_input.script c.in-Ok-play.played.journal
    c.in-Ok-read_input.ensures.input c.in-Ok-play.ensures.history
    (c.in-Ok-write_all.ensures.whole ∙ ap (append (g.K.Sink.held c.args.sink.now)) text) c.after_run.result c.after_run.ensures

pub returns-clause-keeps : goal.returns-clause-keeps
returns-clause-keeps g c =
    let text : c.as_slice.result.now ≡ text_of c.in-Ok-read_input.script c.in-Ok.settings c.in-Ok-play.played.journal =
    c.as_slice.ensures ∙ c.in-Ok-play.ensures.text in
    kept_part c.args.words.now _ _ c.in-Ok.settings c.in-Ok.ensures.reads c.in-Ok-read_input.script c.in-Ok-play.played.journal
    c.in-Ok-read_input.ensures.input c.in-Ok-play.ensures.history
    (subst (λ (bytes : _). GainsPart bytes (g.K.Sink.held c.args.sink.now) (g.K.Sink.held c.write_all.new.sink)) text c.in-Err-write_all.ensures.part)
    c.in-Err-write_all.ensures.fault c.after_run-in-Err-write_all.result c.after_run-in-Err-write_all.ensures

pub returns-in-Err-clause-keeps : goal.returns-in-Err-clause-keeps
returns-in-Err-clause-keeps g c =
    kept_words c.args.words.now _ c.in-Err.refused.0 c.in-Err.ensures.reads c.without_run.result c.without_run.ensures

pub returns-in-Err-read_input-clause-keeps : goal.returns-in-Err-read_input-clause-keeps
returns-in-Err-read_input-clause-keeps g c =
    kept_refused c.args.words.now _ _ c.in-Ok.settings c.in-Ok.ensures.reads c.in-Err-read_input.reason c.in-Err-read_input.ensures.refused refl
    c.without_run-in-Err-read_input.result c.without_run-in-Err-read_input.ensures

pub returns-in_default-clause-keeps : goal.returns-in_default-clause-keeps
returns-in_default-clause-keeps g c =
    kept_refused c.args.words.now _ _ c.in-Ok.settings c.in-Ok.ensures.reads reason.NoMemory tt refl c.without_run-in_default.result c.without_run-in_default.ensures

pub play-requires-clause-bound : goal.play-requires-clause-bound
play-requires-clause-bound g c = c.in-Ok-read_input.ensures.input.bound c.in-Ok.settings
