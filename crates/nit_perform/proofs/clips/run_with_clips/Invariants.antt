use Rattle.nit_perform.proofs.clips.run_with_clips.Given as goal

abbrev pub ghosts-run_clips_named : goal.ghosts-run_clips_named
ghosts-run_clips_named g a = record { parts = a.actors.room.parts }
