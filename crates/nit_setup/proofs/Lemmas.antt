-- What answers use: all that lemmas use, and this crate's lemmas.
pub use Rattle.nit_setup.proofs.Basics.{AreClipsRead, Audit, Configuration, IfSome_then}
pub use Rattle.nit_setup.proofs.Basics.{IsNoJournalText, Loaded, None, OuterSoFar, SoFar, Some, []}
pub use Rattle.nit_setup.proofs.Basics.{add-one, ap, arith, asking_more, asking_none, client_script}
pub use Rattle.nit_setup.proofs.Basics.{decimal_injective, eq-eqb, false, files_in, first_other}
pub use Rattle.nit_setup.proofs.Basics.{idle_user, inl, input_phases, inr, map, name_text, names_in}
pub use Rattle.nit_setup.proofs.Basics.{ne_eqb, phases, range_with_len, refl, script_names}
pub use Rattle.nit_setup.proofs.Basics.{setup_in, sym, take, text_at, true, wanted_by, ◌∙◌}
pub use Rattle.nit_setup.proofs.ClipFilesRead.{clip_stopped, clips_read, journal_stopped}
pub use Rattle.nit_setup.proofs.ClipFilesRead.{picture_read, picture_stopped, run_runnable}
pub use Rattle.nit_setup.proofs.ClipFilesRead.{still_runnable, text_fault}
pub use Rattle.nit_setup.proofs.NumberWords.{number_found, number_is, number_none, short_name}
pub use Rattle.nit_setup.proofs.NumberWords.{short_script}
pub use Rattle.nit_setup.proofs.RunFilesRead.{film_read, inner_stopped, inner_whole, outer_stopped}
pub use Rattle.nit_setup.proofs.RunFilesRead.{outer_whole, reads_audit, reads_clips, run_asked}
pub use Rattle.nit_setup.proofs.RunFilesRead.{run_read, run_valid, stopped_first}
pub use Rattle.nit_setup.proofs.ScriptsRead.{first_of_all, found_other, names_more, none_there}
pub use Rattle.nit_setup.proofs.ScriptsRead.{one_more_clip_read, one_more_outer_read, one_more_read}
pub use Rattle.nit_setup.proofs.ScriptsRead.{one_more_wanted, stopped_at_clip, stopped_at_outer}
pub use Rattle.nit_setup.proofs.ScriptsRead.{stopped_here}
