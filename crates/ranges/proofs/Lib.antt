mod OnesOver
