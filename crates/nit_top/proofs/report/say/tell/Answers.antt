use Rattle.nit_top.proofs.report.say.tell.Goals as goal

pub returns-in-ReadFault : goal.returns-in-ReadFault
returns-in-ReadFault g c =
    rw c.in-ReadFault.is (rw c.piece_of-name.ensures at c.say_all-in-ReadFault.ensures)

pub returns-in-Outside : goal.returns-in-Outside
returns-in-Outside g c = rw c.in-Outside.is c.say_all-in-Outside.ensures

pub returns-in-WriteFault : goal.returns-in-WriteFault
returns-in-WriteFault g c =
    rw c.in-WriteFault.is (rw c.piece_of-name.ensures at c.say_all-in-WriteFault.ensures)

pub returns-in-NoMemory : goal.returns-in-NoMemory
returns-in-NoMemory g c = rw c.in-NoMemory.is c.say_all-in-NoMemory.ensures
