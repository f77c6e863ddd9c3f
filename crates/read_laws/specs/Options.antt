-- The meaning of the words of the command line.
use Rattle.std.specs.Prelude.{◌≡◌, List, [], ◌∷◌, ◌++◌, codes, true, false, Some, None}
use Rattle.ops_jobs.specs.declared.jobs.Engine.TheVariants.{Direct, Serial, Rounds, Free, Steal}
use Rattle.ops_jobs.specs.declared.jobs.Job.TheVariants.{Run, Net, Gen, Why}
use Rattle.ops_jobs.specs.declared.jobs.Options.{Options}
use Rattle.ops_jobs.specs.CommandLine.{Word, job_of}

-- the options if none is given
abbrev pub usual : Options
usual = record { engine = Free; workers = 4; lines = 1024; limit = 1000000; overlap = false }

abbrev pub file : Word
file = codes "f.ops"

-- these words before the name of a file run it with these options
abbrev pub RunsWith : List Word → Options → Type 0
RunsWith words options = job_of (words ++ file ∷ []) ≡ Some (Run options (file ∷ []))

abbrev pub OptionsMean : Type 0
OptionsMean =
    RunsWith [] usual
    × RunsWith (codes "--match" ∷ codes "direct" ∷ []) (record usual { engine = Direct })
    × RunsWith (codes "--match" ∷ codes "serial" ∷ []) (record usual { engine = Serial })
    × RunsWith (codes "--match" ∷ codes "rounds" ∷ []) (record usual { engine = Rounds })
    × RunsWith (codes "--match=free" ∷ []) usual
    × RunsWith (codes "--match" ∷ codes "steal" ∷ []) (record usual { engine = Steal })
    × RunsWith (codes "--workers" ∷ codes "3" ∷ []) (record usual { workers = 3 })
    × RunsWith (codes "--lines" ∷ codes "5" ∷ []) (record usual { lines = 5 })
    × RunsWith (codes "--limit" ∷ codes "9" ∷ []) (record usual { limit = 9 })
    × RunsWith (codes "--overlap" ∷ []) (record usual { overlap = true })
    × (job_of (codes "--overlap" ∷ codes "--overlap" ∷ file ∷ []) ≡ None)
    × (job_of (codes "--overlap=1" ∷ file ∷ []) ≡ None)
    × (job_of (codes "--net" ∷ file ∷ []) ≡ Some (Net (file ∷ [])))
    × (job_of (codes "--why" ∷ file ∷ []) ≡ Some (Why usual (file ∷ [])))
    × (job_of (codes "--why" ∷ codes "--match" ∷ codes "steal" ∷ file ∷ []) ≡ Some (Why (record usual { engine = Steal }) (file ∷ [])))
    × (job_of (codes "--gen" ∷ codes "8" ∷ codes "6" ∷ []) ≡ Some (Gen usual 8 6))
    × (job_of (codes "--gen" ∷ codes "8" ∷ codes "6" ∷ codes "--overlap" ∷ []) ≡ Some (Gen (record usual { overlap = true }) 8 6))
