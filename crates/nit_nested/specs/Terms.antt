-- The words that clauses use: those that come from outside, and those of this crate.
pub use Rattle.nit_nested.specs.Below.{All, AllByRecursion, Buffer, Call, Close, Event, Fill}
pub use Rattle.nit_nested.specs.Below.{FitsColour, FitsLine, IsScreenSize, Line, NoMemory, Painting}
pub use Rattle.nit_nested.specs.Below.{Refresh, Reply, Session, Stroke, Take, TooLong, after_line}
pub use Rattle.nit_nested.specs.Below.{blank, by_refusal, count_by, enumerate_from, first_session}
pub use Rattle.nit_nested.specs.Below.{flat_map, is_accepted, is_phase, most_height, most_lines}
pub use Rattle.nit_nested.specs.Below.{most_width, painted_from, phases, pos, prefix_len, refusal}
pub use Rattle.nit_nested.specs.Below.{serve, session_size, static, taking, word_after_stroke}
pub use Rattle.nit_nested.specs.Below.{words_left, zeros}
pub use Rattle.nit_nested.specs.FrameLines.{ColourRun, IsFrame, fills, frame_lines, row_lines}
pub use Rattle.nit_nested.specs.FrameLines.{row_runs, rows_lines, run_joined, words_of_lines}
pub use Rattle.nit_nested.specs.FrameScript.{count_lines, first_forbidden, frame_script}
pub use Rattle.nit_nested.specs.FrameScript.{frames_behind, is_forbidden, next_frame, woven}
pub use Rattle.nit_nested.specs.Nest.{IsNest, NestModel, UnlessMemory, frame_answer}
pub use Rattle.nit_nested.specs.Nest.{lines_of_frames, nest_script, script_answer, unless_long}
pub use Rattle.nit_nested.specs.ShownFrames.{CanPay, ShowsFrames, lines_before_end}
