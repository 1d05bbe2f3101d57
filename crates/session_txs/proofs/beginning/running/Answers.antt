use Rattle.std.proofs.Common.{rules, ap, ◌∙◌}
use Rattle.live_stores.specs.Live.{LiveData, database_at}
use Rattle.tx_courses.specs.Courses.{course_opened}
use Rattle.live_tx.specs.Live.{LiveState}
use Rattle.script_handlers.specs.declared.handlers.ScriptHandler.{ScriptHandler}
use Rattle.session_txs.proofs.Openings.{begun_as, ready_as, logs_begun, running_seen}
use Rattle.session_txs.proofs.beginning.running.Goals as goal

pub new-live-requires-after_bounds : goal.new-live-requires-after_bounds
new-live-requires-after_bounds g c κs within = ready_as c.args.parts.mode c.args.parts.schema c.args.parts.names c.args.parts.front c.requires.placed (database_at c.args.version c.args.stores) c.args.parts.threw
    c.left_front-front.result c.new-course.result c.in_ok-changes.changes c.left_front-front.ensures
    (c.new-course.ensures ∙ ap (λ (l : LiveData). course_opened c.args.parts.mode c.args.parts.schema l c.in_ok-changes.changes) c.new-stores.ensures) c.in_ok-changes.ensures
    (c.live_laws.ensures.body c.args.parts.mode c.args.parts.schema c.args.parts.names (database_at c.args.version c.args.stores) c.args.parts.front c.requires.placed c.requires.fits.schema c.requires.fits.shows c.requires.fits.raised)

pub invariant_of-result : goal.invariant_of-result
invariant_of-result g c = running_seen c.args.parts.mode c.args.parts.schema c.args.parts.names c.args.parts.front c.args.version c.args.stores c.args.parts.threw c.requires.placed c.requires.fits
    (logs_begun c.args.parts.mode c.args.parts.schema c.args.parts.names c.args.parts.front (database_at c.args.version c.args.stores) c.args.parts.threw c.requires.placed c.loggable_change_laws.ensures.opening (λ f s b few. c.limit_laws.ensures.body f s b few) c.requires.loggable)
    c.of-schema_before.result.value c.of-front_before.result.value c.of-schema_before.ensures c.of-front_before.ensures _ (first_of (cc, search rules)) _
    (ap (λ (l : LiveState ScriptHandler). l.state) c.new-live.ensures
    ∙ begun_as c.args.parts.mode c.args.parts.schema c.args.parts.names c.args.parts.front c.requires.placed (database_at c.args.version c.args.stores) c.args.parts.threw
    c.left_front-front.result c.new-course.result c.in_ok-changes.changes c.left_front-front.ensures
    (c.new-course.ensures ∙ ap (λ (l : LiveData). course_opened c.args.parts.mode c.args.parts.schema l c.in_ok-changes.changes) c.new-stores.ensures) c.in_ok-changes.ensures) _ (first_of (cc, search rules))
