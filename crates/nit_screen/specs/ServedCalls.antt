-- What a call of a session needs to be served by a screen, and what it leaves.
use Rattle.std.specs.Prelude.{◌≡◌, ℕ, ◌-◌, ◌^◌, ◌<◌, List, None, length}
use Rattle.nit_screen.specs.Below.{Call, IsServed, Reply, ServerModel, Sight, refusal, session_in}
use Rattle.nit_screen.specs.Below.{state_of}
use Rattle.nit_screen.specs.RawWords.{AreRaw, Painted}
use Rattle.nit_screen.specs.Screen.{AreGlasses, ScreenModel}
use Rattle.nit_events.specs.declared.entry.Entry.TheVariants as entry

-- no refusal meets the call of a session, which has handles left
pub record CanAccept (s : ServerModel) (sid : ℕ) (call : Call) : Type 0 where
  pub session : sid < length s.sessions
  pub accepted : refusal (session_in s.sessions sid) call ≡ None
  pub handles : (session_in s.sessions sid).next < 2 ^ 32 - 1

-- so it is; each session has a glass, and each raw word is one of its pixel's source
pub record CanServe (s : ScreenModel) (sid : ℕ) (call : Call) (sights : ℕ → Sight) : Type 0 where
  pub unrefused : CanAccept s.serving sid call
  pub glasses : AreGlasses s.serving.config sights
  pub raw : AreRaw (state_of s.serving) s.raw

-- A call was served, and exactly the pixels that it makes dirty were loaded again.
pub record IsCallShown (sid : ℕ) (call : Call) (reply : Reply) (sights sights' : ℕ → Sight)
    (before now : ScreenModel) : Type 0 where
  pub served : IsServed sid call reply before.serving now.serving
  pub painted : Painted (state_of before.serving) (entry.Call sid call reply) (state_of now.serving)
      sights sights' before.raw now.raw

-- A call was served that makes no pixel dirty, and nothing was loaded.
pub record LoadsNothing (sid : ℕ) (call : Call) (reply : Reply) (before now : ScreenModel) : Type 0
  where
    pub served : IsServed sid call reply before.serving now.serving
    pub raw : now.raw ≡ before.raw
    pub painted : (sights : ℕ → Sight) (raw : List ℕ)
        → Painted (state_of before.serving) (entry.Call sid call reply) (state_of now.serving)
        sights sights raw raw
