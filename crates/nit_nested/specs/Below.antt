-- The words of the library and of the crates below that are used here, and the crate's plain types.
pub use Rattle.nit_events.specs.declared.call.Call.{Call}
pub use Rattle.nit_events.specs.declared.call.Call.TheVariants.{Buffer, Close, Refresh, Take}
pub use Rattle.nit_events.specs.declared.call.Reply.{Reply}
pub use Rattle.nit_events.specs.declared.event.Event.{Event}
pub use Rattle.nit_journal.specs.Session.{Session, by_refusal, first_session, refusal, serve}
pub use Rattle.nit_journal.specs.Session.{taking}
pub use Rattle.nit_journal.specs.StackAfter.{is_accepted}
pub use Rattle.nit_nested.specs.declared.error.NestError.{NestError}
pub use Rattle.nit_nested.specs.declared.error.NestError.TheVariants.{Bad, NoMemory, Phases}
pub use Rattle.nit_nested.specs.declared.error.NestError.TheVariants.{TooLong}
pub use Rattle.nit_plan.specs.ScriptWords.{Painting, after_line, blank, painted_from, session_size}
pub use Rattle.nit_plan.specs.ScriptWords.{static, words_after, words_left}
pub use Rattle.nit_plan.specs.Strokes.{word_after_stroke}
pub use Rattle.nit_rect.specs.Limits.{most_height, most_width}
pub use Rattle.nit_script.specs.Grammar.{most_lines}
pub use Rattle.nit_script.specs.Phases.{is_phase, phases}
pub use Rattle.nit_script.specs.Spelling.{FitsColour, FitsLine}
pub use Rattle.nit_script.specs.declared.line.Line.{Line}
pub use Rattle.nit_script.specs.declared.line.Stroke.{Stroke}
pub use Rattle.nit_script.specs.declared.line.Stroke.TheVariants.{Fill}
pub use Rattle.nit_stack.specs.Stack.{IsScreenSize}
pub use Rattle.nit_word.specs.Zeros.{zeros}
pub use Rattle.std.specs.List.{AllByRecursion, enumerate_from, flat_map, prefix_len, sum_by}
pub use Rattle.std.specs.Prelude.{All, count_by, pos}
